-- The tables that the laws on wishes are about: those of the network's node.
use Rattle.channel_node.specs.Tables.{Tables}
use Rattle.stage_tables.specs.Stages as network

abbrev pub stages : Tables
stages = network.stages
