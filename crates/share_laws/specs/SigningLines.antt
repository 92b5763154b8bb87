-- What a line that signs a state changes: what its own channel can end with, and nothing else.
use Rattle.std.specs.Prelude.{◌≡◌, false, List, [], ◌∷◌, if◌then◌else◌}
use Rattle.std.specs.Str.{bytes_eq}
use Rattle.channel_values.specs.Parts.{FixedParts}
use Rattle.channel_values.specs.declared.chain.Signed.{Signed}
use Rattle.call_history.specs.Mode.{is_final}
use Rattle.channel_values.specs.Rules.{Rules}
use Rattle.call_history.specs.History.{mode}
use Rattle.call_history.specs.declared.entry.Entry.{Entry}
use Rattle.call_history.specs.declared.event.Deed.TheVariants as deeds
use Rattle.channel_safety.specs.Journals.{Line}
use Rattle.channel_safety.specs.Held.{held}
use Rattle.share_laws.specs.Places.{outcomes_of, is_held, possible}

-- once a chain of the channel f is held it can end with the state's outcome and its proposal, if it isn't final
pub record ChangesOne (r : Rules) (past : List Entry) (x : Line) (front : List Line) (f : FixedParts)
    (s : Signed) : Type 0 where
  pub others :
      (g : FixedParts) → bytes_eq (r.named f) (r.named g) ≡ false
      → possible r past (x ∷ front) g ≡ possible r past front g
  pub own :
      is_final (mode r (r.named f) past) ≡ false
      → possible r past (x ∷ front) f ≡ (if is_held r f (held r f past (x ∷ front)) then outcomes_of s.state else [])

abbrev pub SigningsChangeOne : Type 0
SigningsChangeOne =
    (r : Rules) (past : List Entry) (x : Line) (front : List Line) (f : FixedParts) (s : Signed)
    → x.deed ≡ deeds.Signed (r.named f) s.state s.signature
    → ChangesOne r past x front f s
