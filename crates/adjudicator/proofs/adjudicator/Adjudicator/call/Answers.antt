use Rattle.adjudicator.proofs.adjudicator.Adjudicator.call.Goals as goal

pub returns-in-Deposit : goal.returns-in-Deposit
returns-in-Deposit c = rw c.in-Deposit.is c.deposit.ensures

pub returns-in-Challenge : goal.returns-in-Challenge
returns-in-Challenge c = rw c.in-Challenge.is c.challenge.ensures

pub returns-in-Respond : goal.returns-in-Respond
returns-in-Respond c = rw c.in-Respond.is c.respond.ensures

pub returns-in-Refute : goal.returns-in-Refute
returns-in-Refute c = rw c.in-Refute.is c.refute.ensures

pub returns-in-Checkpoint : goal.returns-in-Checkpoint
returns-in-Checkpoint c = rw c.in-Checkpoint.is c.checkpoint.ensures

pub returns-in-Conclude : goal.returns-in-Conclude
returns-in-Conclude c = rw c.in-Conclude.is c.conclude.ensures

pub returns-in-Transfer : goal.returns-in-Transfer
returns-in-Transfer c = rw c.in-Transfer.is c.transfer.ensures

pub returns-in-Claim : goal.returns-in-Claim
returns-in-Claim c = rw c.in-Claim.is c.claim.ensures
