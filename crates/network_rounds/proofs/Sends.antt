-- What the jobs of a phase have may cross threads. One search from a job runs out of steps, so the parts are joined
-- here.
use mathlib.Core.List.{[], ◌∷◌}
use denote.Builtin as builtin
use denote.RattleType.{RattleType}
use denote.Param.Object as object
use denote.Param.Send.{IsSend, sendable}
use denote.Param.SendFields.{declared_send, variants_send, as_row_send}
use denote.Param.Sent.{Sends}
use denote.Struct.Field.{Field, u32-field, bool-field}
use denote.Struct.Tuple as tuple
use Rattle.adjudicator.specs.contracts.adjudicator.Adjudicator as adjudicators
use Rattle.adjudicator.specs.contracts.checked.CheckedOp as checked
use Rattle.adjudicator.specs.contracts.shared.AdjudicatorOneThread.TheImpl as one_thread
use Rattle.atomic_table.proofs.shared.Seat.TheSendSync as table_seats
use Rattle.call_history.specs.contracts.call.Call as calls
use Rattle.call_history.specs.contracts.call.Op as ops
use Rattle.call_history.specs.contracts.entry.Entry as entries
use Rattle.call_history.specs.contracts.refusal.Reply as replies
use Rattle.channel_values.specs.contracts.listed.Listed as listed
use Rattle.channel_values.specs.contracts.outcome.Outcome as outcomes
use Rattle.channel_values.specs.contracts.state.State as states
use Rattle.network.specs.contracts.lookout.Lookout as lookouts
use Rattle.network.specs.contracts.member.Member as members
use Rattle.network.specs.declared.party.Party as party
use Rattle.network_rounds.specs.contracts.actor.Notes as notes
use Rattle.network_rounds.specs.contracts.cast.Cast as casts
use Rattle.network_rounds.specs.contracts.worker.Job as jobs
use Rattle.network_rounds.specs.contracts.worker.Worker as workers
use Rattle.shared_object.specs.contracts.seat.Seat as seats
use Rattle.std.proofs.Crossing.{crosses, dyn_box_send}
use Rattle.std.specs.contracts.alloc.Global as global
use Rattle.std.specs.contracts.dyn_box.DynBox as boxes
use Rattle.std.specs.contracts.impls.GlobalAllocator.TheImpl as heap
use Rattle.std.specs.contracts.vec.Vec as vecs

-- ---- entries

outcome_sends : IsSend (outcomes.the_field).row
outcome_sends = search (sendable, crosses) depth 60 fits 20000

state_sends : IsSend (states.the_field).row
state_sends = search (outcome_sends, sendable, crosses) depth 60 fits 20000

call_sends : IsSend (calls.the_field).row
call_sends = search (state_sends, outcome_sends, sendable, crosses) depth 60 fits 20000

op_sends : IsSend (ops.the_field).row
op_sends = search (call_sends, sendable, crosses) depth 60 fits 20000

entry_sends : IsSend (entries.the_field).row
entry_sends = search (op_sends, sendable, crosses) depth 60 fits 20000

notes_sends : IsSend (notes.the_field).row
notes_sends = search (entry_sends, sendable, crosses) depth 60 fits 20000

-- ---- jobs

adjudicator_sends : IsSend (adjudicators.the_field).row
adjudicator_sends = search (sendable, crosses) depth 60 fits 20000

pub lookout_sends : IsSend (lookouts.the_field).row
lookout_sends = search (sendable, crosses) depth 60 fits 20000

abbrev pub seat_field : Field
seat_field =
    seats.the_field adjudicators.the_row checked.the_row replies.the_row entries.the_row ops.the_row one_thread.ghosts

seat_sends : IsSend seat_field.row
seat_sends = search (adjudicator_sends, entry_sends, table_seats.the_send, sendable, crosses) depth 60 fits 20000

abbrev pub letters_field : Field
letters_field =
    vecs.the_field (tuple.Tuple (builtin.Array builtin.u8 tt 32 ∷ listed.the_row builtin.u8 ∷ [])) global.the_row heap.ghosts

letters_send : IsSend letters_field.row
letters_send = search (sendable, crosses) depth 60 fits 20000

module _ (T' : RattleType) (g' : object.Ghosts T'.Denot) where
  pub cast_sends : Sends (object.table_of T'.Denot g') → IsSend T' → IsSend (casts.the_row T' g')
  cast_sends each table =
      let actor = as_row_send (boxes.the_field T' global.the_row g' heap.ghosts) (dyn_box_send T' g' each table) in
      declared_send (casts.the_type T' g') (
        as_row_send u32-field (search sendable),
        (actor, (as_row_send notes.the_field notes_sends, (as_row_send bool-field (search sendable), tt))),
      )

module _ (T T' : RattleType) (g : party.Ghosts T.Denot) (g' : object.Ghosts T'.Denot) where
  pub job_sends : IsSend (members.the_row T g) → IsSend (casts.the_row T' g') → IsSend (jobs.the_row T T' g g')
  job_sends member cast =
      let sent = as_row_send letters_field letters_send in
      let node = as_row_send (members.the_field T g) member in
      let worker = variants_send (workers.enum T T' g g') ((node, (sent, tt)), ((cast, (sent, tt)), tt)) in
      declared_send (jobs.the_type T T' g g') (as_row_send seat_field seat_sends, (worker, tt))
