use Rattle.further_laws.proofs.Resending.{messages_are_taken_once, refused_messages_do_nothing}
use Rattle.further_laws.proofs.resending_laws.messages_are_taken_once.Goals as goal

pub returns-clause-taken : goal.returns-clause-taken
returns-clause-taken c = messages_are_taken_once

pub returns-clause-refused : goal.returns-clause-refused
returns-clause-refused c = refused_messages_do_nothing
