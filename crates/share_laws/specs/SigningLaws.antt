use Rattle.std.specs.Prelude.{◌≡◌, ℕ, ◌+◌, ◌≤◌, Bool, true, false, List, ◌⊎◌}
use Rattle.std.specs.Str.{bytes_eq}
use Rattle.channel_values.specs.declared.value.Dest.{Dest}
use Rattle.channel_values.specs.declared.value.Dest.TheVariants.{Person}
use Rattle.channel_values.specs.declared.value.Item.{Item}
use Rattle.channel_values.specs.Outcomes.{total}
use Rattle.channel_values.specs.Amounts.{aff}
use Rattle.channel_safety.specs.Journals.{In}
use Rattle.funding_plans.specs.declared.plan.Part.{Part}
use Rattle.share_laws.specs.Worth.{worth, no_reach}
use Rattle.share_laws.specs.Books.{Counting, counts_in}
use Rattle.share_laws.specs.Share.{share_of}
use Rattle.share_laws.specs.Funded.{are_funded, is_funded}
use Rattle.share_laws.specs.Signing.{Becomes, Starts, CanEnd, ComesFairly, ComesByPaying}
use Rattle.channel_values.specs.declared.value.AssetOutcome.{AssetOutcome}
use Rattle.call_history.specs.Flows.{is_among}
use Rattle.share_laws.specs.Plans.{IsPlan, IsBare, reaches}
use Rattle.funding_plans.specs.Parts.{own_channel, ledgers_of}
use Rattle.share_laws.specs.Bases.{all_bases}
use Rattle.share_laws.specs.Moves.{SetsAside, Backs, Joins, IsFair, owing}

-- A funded ledger that sets aside what a part of the plan has leaves what the plan is worth.
abbrev pub LedgerMovesKeepWorth : Type 0
LedgerMovesKeepWorth =
    (me : List ℕ) (ps : List Part) → IsPlan ps →
    (held : List ℕ → ℕ) (counts : List ℕ → Bool) (list : List ℕ → List Dest) (free bound : List ℕ → List Item) →
    (l : List ℕ) → ((m : List ℕ) → bytes_eq m l ≡ false → bound m ≡ free m) →
    (total (free l) ≤ reaches (owing held counts list free) no_reach ps l) ⊎ (total (free l) ≤ reaches (owing held counts list bound) no_reach ps l) →
    (x : List ℕ) (mine all : ℕ) → SetsAside me x mine all (free l) (bound l) →
    (p : Part) → In p ps → Backs (owing held counts list free) me p l x mine all →
    worth (owing held counts list free) me ps no_reach ≡ worth (owing held counts list bound) me ps no_reach

-- A joint channel that joins what both its guarantors reach, or parts it again, leaves what the plan is worth.
abbrev pub JointMovesKeepWorth : Type 0
JointMovesKeepWorth =
    (me : List ℕ) (ps : List Part) → IsPlan ps →
    (held : List ℕ → ℕ) (counts : List ℕ → Bool) (list : List ℕ → List Dest) (apart together : List ℕ → List Item) →
    (j : List ℕ) → ((m : List ℕ) → bytes_eq m j ≡ false → together m ≡ apart m) →
    (p : Part) → In p ps → IsBare ps (own_channel p) (apart (own_channel p)) →
    ((l : List ℕ) → is_among l (ledgers_of p) ≡ true →
    (total (apart l) ≤ reaches (owing held counts list apart) no_reach ps l) ⊎ (total (apart l) ≤ reaches (owing held counts list together) no_reach ps l)) →
    Joins (owing held counts list apart) me p j (apart j) (together j) →
    worth (owing held counts list apart) me ps no_reach ≡ worth (owing held counts list together) me ps no_reach

-- A payment of k in a channel on which no part stands lowers what the plan is worth by at most k.
abbrev pub PaymentsLowerWorth : Type 0
PaymentsLowerWorth =
    (me : List ℕ) (ps : List Part) → IsPlan ps →
    (held : List ℕ → ℕ) (counts : List ℕ → Bool) (list : List ℕ → List Dest) (before after : List ℕ → List Item) →
    (n : List ℕ) → ((m : List ℕ) → bytes_eq m n ≡ false → after m ≡ before m) → is_among n (all_bases ps) ≡ false →
    (k : ℕ) → ((r : ℕ) → aff (before n) r (Person me) ≤ aff (after n) r (Person me) + k) →
    worth (owing held counts list before) me ps no_reach ≤ worth (owing held counts list after) me ps no_reach + k

-- What is fair lowers nothing that a funded plan is worth.
abbrev pub FairMovesKeepWorth : Type 0
FairMovesKeepWorth =
    (me : List ℕ) (ps : List Part) → IsPlan ps →
    (held : List ℕ → ℕ) (counts : List ℕ → Bool) (list : List ℕ → List Dest) (before after : List ℕ → List Item) →
    (n : List ℕ) → ((m : List ℕ) → bytes_eq m n ≡ false → after m ≡ before m) →
    are_funded (owing held counts list before) me ps no_reach ≡ true
    → IsFair (owing held counts list before) me ps n (after n) →
    worth (owing held counts list before) me ps no_reach ≤ worth (owing held counts list after) me ps no_reach

-- Where a plan is funded, no signature lowers the share by which a channel can end with what comes fairly.
abbrev pub SigningsKeepShares : Type 0
SigningsKeepShares =
    (me : List ℕ) (ps : List Part) → IsPlan ps
    → (held : List ℕ → ℕ) (asset paid : ℕ) (ks ls : List Counting) (was now : Counting) →
    now.channel ≡ was.channel → Becomes was now ks ls → is_funded me ps held ks asset ≡ true →
    ((o : List AssetOutcome) → CanEnd now o → ComesFairly me ps held ks was asset o) →
    share_of me paid ps held ks asset ≤ share_of me paid ps held ls asset

-- Whether it is funded or not, a payment of k, in a channel on which no part stands, lowers the share by at most k.
abbrev pub PaymentsLowerShares : Type 0
PaymentsLowerShares =
    (me : List ℕ) (ps : List Part) → IsPlan ps
    → (held : List ℕ → ℕ) (asset paid : ℕ) (ks ls : List Counting) (was now : Counting) →
    now.channel ≡ was.channel → Becomes was now ks ls → is_among was.channel (all_bases ps) ≡ false →
    (k : ℕ) → ((o : List AssetOutcome) → CanEnd now o → ComesByPaying me k was asset o) →
    share_of me paid ps held ks asset ≤ share_of me paid ps held ls asset + k

-- A channel that starts to count lowers no share.
abbrev pub StartsKeepShares : Type 0
StartsKeepShares =
    (me : List ℕ) (ps : List Part) (held : List ℕ → ℕ) (asset paid : ℕ) (ks ls : List Counting) (now : Counting) →
    Starts now ks ls → counts_in ks now.channel ≡ false
    → share_of me paid ps held ks asset ≤ share_of me paid ps held ls asset
