-- What a digest and a signed string tell.
use Rattle.std.proofs.Common.{◌≡◌, ℕ, List, [], ◌∷◌, ◌++◌, length, take, drop, get_or, sym, ap, ◌∙◌, arith}
use Rattle.std.proofs.lemmas.List.{take_at, drop_at}
use Rattle.channel_values.specs.Digests.{name_of_channel, name_of_person, digest_of_state, digest_of_outcome}
use Rattle.channel_values.specs.Messages.{message_of_state, message_of_challenge}
use Rattle.channel_values.specs.Laws.{DigestsTell, MessagesTell}

-- equal lists with fronts of one length have equal fronts and equal rests
fronts_alike : (c d a b : List ℕ) (n : ℕ) → length c ≡ n → length d ≡ n → c ++ a ≡ d ++ b → c ≡ d
fronts_alike c d a b n lc ld e = sym (take_at c a n lc) ∙ ap (take n) e ∙ take_at d b n ld

rests_alike : (c d a b : List ℕ) (n : ℕ) → length c ≡ n → length d ≡ n → c ++ a ≡ d ++ b → a ≡ b
rests_alike c d a b n lc ld e = sym (drop_at c a n lc) ∙ ap (drop n) e ∙ drop_at d b n ld

heads_alike : (i j : ℕ) (a b : List ℕ) → i ∷ a ≡ j ∷ b → i ≡ j
heads_alike i j a b e = ap (λ (x : List ℕ). get_or x 0 0) e

tails_alike : (i j : ℕ) (a b : List ℕ) → i ∷ a ≡ j ∷ b → a ≡ b
tails_alike i j a b e = ap (λ (x : List ℕ). drop 1 x) e

pub digests_tell : DigestsTell
unfolding name_of_channel name_of_person digest_of_state digest_of_outcome
digests_tell strings none = record {
  channels = λ a b ina inb e. tails_alike 1 1 a b (none (1 ∷ a) (1 ∷ b) ina inb e);
  persons = λ a b ina inb e. tails_alike 2 2 a b (none (2 ∷ a) (2 ∷ b) ina inb e);
  states = λ c d a b lc ld ina inb e.
      let whole : c ++ a ≡ d ++ b = tails_alike 3 3 (c ++ a) (d ++ b) (none (3 ∷ c ++ a) (3 ∷ d ++ b) ina inb e) in
      (fronts_alike c d a b 32 lc ld whole, rests_alike c d a b 32 lc ld whole);
  outcomes = λ a b ina inb e. tails_alike 4 4 a b (none (4 ∷ a) (4 ∷ b) ina inb e);
  kinds = λ i j a b differ ina inb e. differ (heads_alike i j a b (none (i ∷ a) (j ∷ b) ina inb e));
}

pub messages_tell : MessagesTell
unfolding message_of_state message_of_challenge
messages_tell = record {
  states = λ a b e. tails_alike 5 5 a b e;
  challenges = λ a b i j la lb e.
      let whole : a ++ i ∷ [] ≡ b ++ j ∷ [] = tails_alike 6 6 (a ++ i ∷ []) (b ++ j ∷ []) e in
      (fronts_alike a b (i ∷ []) (j ∷ []) 32 la lb whole, heads_alike i j [] [] (rests_alike a b (i ∷ []) (j ∷ []) 32 la lb whole));
  kinds = λ a b i e. absurd (let six : 5 ≡ 6 = heads_alike 5 6 a (b ++ i ∷ []) e in omega arith);
}
