-- Entries that challenge nothing keep watchers calm.
use Rattle.std.proofs.Common.{◌≡◌, ℕ, ◌+◌, ◌≤◌, Bool, true, false, cond, ◌&&◌, ◌⊎◌, inl, inr, List, [], ◌∷◌, ◌++◌, length, drop, refl, sym, ◌∙◌, ap, subst, arith}
use Rattle.std.specs.Prelude.{fold, nat_le, nat_lt, Some}
use Rattle.std.specs.Str.{bytes_eq}
use Rattle.std.proofs.lemmas.Bool.Decides.{nat_tests}
use Rattle.std.proofs.lemmas.List.{length-reverse, drop-append-le, reverse-append}
use Rattle.std.proofs.lemmas.List.Sums.{fold-append}
use Rattle.channel_values.specs.declared.chain.Chain.{Chain}
use Rattle.channel_values.specs.Rules.{top_turn}
use Rattle.call_history.specs.Calls.{make_deposit, make_transfer}
use Rattle.call_history.specs.declared.call.Call.TheVariants.{Conclude}
use Rattle.call_history.specs.declared.call.Op.TheVariants as ops
use Rattle.call_history.specs.declared.entry.Entry.{Entry}
use Rattle.call_history.specs.declared.held_chain.HeldChain.{HeldChain}
use Rattle.call_history.specs.declared.refusal.Reply.TheVariants.{Held, Concluded, Paid}
use Rattle.channel_values.specs.declared.value.AssetOutcome.{AssetOutcome}
use Rattle.network.specs.Watching.{Watching, saw, is_stale, recorded, row_with, watched_row, unwatched}
use Rattle.network.specs.declared.rows.Watched.{Watched}
use Rattle.channel_values.specs.Digests.{name_of_channel}
use Rattle.channel_values.specs.Spelling as spelling
use Rattle.call_history.proofs.Names.{same_bytes}
use Rattle.channel_safety.proofs.Tests.{clash}
use Rattle.call_history.specs.Mode.{mode_at, is_challenged}
use Rattle.network.specs.Entered.{oldest_first}
use Rattle.script_run.specs.Rounds.{StaysCalm}

-- an entry that keeps each watcher calm
abbrev pub Soothes : Entry → Type 0
Soothes e = (w : Watching) → ((held : HeldChain) → is_stale w held ≡ false) → (held : HeldChain) → is_stale (saw w e) held ≡ false

pub soothed : (e : Entry) (h : List Entry) → Soothes e → StaysCalm h (e ∷ h)
soothed e h soothes eye c =
    let n : length (oldest_first h) ≡ length h = length-reverse h in
    let within : eye.seen ≤ length (oldest_first h) = subst (λ (k : ℕ). eye.seen ≤ k) (sym n) c.within in
    let split : drop eye.seen (oldest_first (e ∷ h)) ≡ drop eye.seen (oldest_first h) ++ e ∷ [] = ap (drop eye.seen) (reverse-append (e ∷ []) h) ∙ drop-append-le eye.seen (oldest_first h) (e ∷ []) within in
    record {
      within = let k = c.within in omega arith;
      calm = λ held. ap (λ (es : List Entry). is_stale (fold saw eye.watcher es) held) split
          ∙ ap (λ (x : Watching). is_stale x held) (fold-append saw eye.watcher (drop eye.seen (oldest_first h)) (e ∷ []))
          ∙ soothes (fold saw eye.watcher (drop eye.seen (oldest_first h))) c.calm held;
    }

pub deposits_soothe : (number by asset expected amount n : ℕ) (channel : List ℕ) → Soothes (record { number = number; by = by; op = ops.Call (make_deposit channel asset expected amount); reply = Held n })
deposits_soothe number by asset expected amount n channel w calm held = calm held

pub transfers_soothe : (number by asset index n : ℕ) (channel : List ℕ) (outcome : List AssetOutcome) → Soothes (record { number = number; by = by; op = ops.Call (make_transfer channel outcome asset index); reply = Paid n })
transfers_soothe number by asset index n channel outcome w calm held = calm held

-- what is recorded of a channel then
recorded-row : (new : Watched) (rows : List Watched) (channel : List ℕ) → (watched_row (recorded new rows) channel ≡ new) ⊎ (watched_row (recorded new rows) channel ≡ watched_row rows channel)
recorded-row new [] channel = go (bytes_eq new.channel channel)
  where
    go : (t : Bool) → (cond t new (unwatched channel) ≡ new) ⊎ (cond t new (unwatched channel) ≡ unwatched channel)
    go true = inl refl
    go false = inr refl
recorded-row new (row ∷ rows) channel = go (bytes_eq row.channel new.channel) (bytes_eq new.channel channel) (bytes_eq row.channel channel) refl refl refl (recorded-row new rows channel)
  where
    go : (t a b : Bool) → bytes_eq row.channel new.channel ≡ t → bytes_eq new.channel channel ≡ a → bytes_eq row.channel channel ≡ b → (watched_row (recorded new rows) channel ≡ new) ⊎ (watched_row (recorded new rows) channel ≡ watched_row rows channel)
        → (watched_row (cond t (new ∷ rows) (row ∷ recorded new rows)) channel ≡ new) ⊎ (watched_row (cond t (new ∷ rows) (row ∷ recorded new rows)) channel ≡ cond b row (watched_row rows channel))
    go true true b d e f ih = inl (simp e)
    go true false true d e f ih = absurd (clash (bytes_eq row.channel channel) f (subst (λ (k : List ℕ). bytes_eq k channel ≡ false) (sym (same_bytes row.channel new.channel d)) e))
    go true false false d e f ih = inr (simp e)
    go false a true d e f ih = inr (simp f)
    go false a false d e f (inl is) = inl (simp f is)
    go false a false d e f (inr is) = inr (simp f is)

now-final : (t : ℕ) → nat_le t t ≡ true
now-final t = grind (arith, nat_tests)

pub conclusions_soothe : (number by n : ℕ) (chain : Chain) → Soothes (record { number = number; by = by; op = ops.Call (Conclude chain); reply = Concluded n })
conclusions_soothe number by n chain w calm held = go (recorded-row new w.rows held.channel)
  where
    new : Watched
    new = row_with (name_of_channel (spelling.fixed chain.fixed)) (n, Some w.time)

    test : Watched → Bool
    test row = is_challenged (mode_at row.deadline w.time) && nat_lt row.turn (top_turn held.chain.states)

    go : (watched_row (recorded new w.rows) held.channel ≡ new) ⊎ (watched_row (recorded new w.rows) held.channel ≡ watched_row w.rows held.channel) → test (watched_row (recorded new w.rows) held.channel) ≡ false
    go (inl is) = ap test is ∙ simp (now-final w.time)
    go (inr is) = ap test is ∙ calm held
