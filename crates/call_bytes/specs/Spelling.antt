-- The one spelling of a reply: numbers with their most significant byte first.
use Rattle.std.specs.Prelude.{ℕ, List, [], ◌∷◌, ◌++◌}
use Rattle.std.specs.Int.{w64, to_be_bytes}
use Rattle.channel_values.specs.declared.fault.SupportFault.{SupportFault}
use Rattle.channel_values.specs.declared.fault.SupportFault.TheVariants as supports
use Rattle.call_history.specs.declared.refusal.Refusal.{Refusal}
use Rattle.call_history.specs.declared.refusal.Refusal.TheVariants.{IsFinal, NotSupported, Stale, BadChallenger, NoChallenge, WrongState, WrongTurn, BadSignature, BadStep, NotNewer, NotChallengers, NotFinalState, Zero, Underheld, AssetFull, NotFinal, WrongOutcome, NoAsset, WrongKind, WrongTarget, NotListed, NoItem, NothingDue, Backwards, TooLate}
use Rattle.call_history.specs.declared.refusal.Reply.{Reply}
use Rattle.call_history.specs.declared.refusal.Reply.TheVariants.{Held, Until, Opened, Concluded, Paid, Now, No}
use Rattle.call_bytes.specs.Numbers.{step_number}

abbrev pub long : ℕ → List ℕ
long n = to_be_bytes w64 n

-- ---- replies

-- a fault's number, its place or participant, and the number of the broken rule of a step; 0 for what it doesn't have
unfoldable pub support : SupportFault → List ℕ
support supports.Length = 1 ∷ (long 0 ++ (0 ∷ []))
support (supports.Turn place) = 2 ∷ (long place ++ (0 ∷ []))
support (supports.Step place fault) = 3 ∷ (long place ++ (step_number fault ∷ []))
support (supports.Signature who) = 4 ∷ (long who ++ (0 ∷ []))

-- a refusal's number, and what it keeps
unfoldable pub refusal : Refusal → List ℕ
refusal IsFinal = 1 ∷ []
refusal (NotSupported fault) = 2 ∷ support fault
refusal (Stale n) = 3 ∷ long n
refusal BadChallenger = 4 ∷ []
refusal NoChallenge = 5 ∷ []
refusal WrongState = 6 ∷ []
refusal (WrongTurn n) = 7 ∷ long n
refusal BadSignature = 8 ∷ []
refusal (BadStep fault) = 9 ∷ step_number fault ∷ []
refusal (NotNewer n) = 10 ∷ long n
refusal NotChallengers = 11 ∷ []
refusal (NotFinalState n) = 12 ∷ long n
refusal Zero = 13 ∷ []
refusal (Underheld n) = 14 ∷ long n
refusal (AssetFull n) = 15 ∷ long n
refusal (NotFinal name) = 16 ∷ name
refusal (WrongOutcome name) = 17 ∷ name
refusal NoAsset = 18 ∷ []
refusal WrongKind = 19 ∷ []
refusal WrongTarget = 20 ∷ []
refusal NotListed = 21 ∷ []
refusal NoItem = 22 ∷ []
refusal (NothingDue n) = 23 ∷ long n
refusal (Backwards n) = 24 ∷ long n
refusal TooLate = 25 ∷ []

-- tags 1 to 7
unfoldable pub reply : Reply → List ℕ
reply (Held n) = 1 ∷ long n
reply (Until n) = 2 ∷ long n
reply (Opened n) = 3 ∷ long n
reply (Concluded n) = 4 ∷ long n
reply (Paid n) = 5 ∷ long n
reply (Now n) = 6 ∷ long n
reply (No why) = 7 ∷ refusal why
