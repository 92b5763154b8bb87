-- A fixed part that is made of some parts and is one has the duration that was asked for.
use Rattle.std.proofs.Common.{◌≡◌, ◌∙◌, ℕ, zero, suc, ◌+◌, ◌<◌, ◌≤◌, ◌^◌, Bool, true, false, ◌&&◌, not, ltb, eqb, List, [], ◌∷◌, ◌++◌, length, take, drop, Option, Some, None, Result, Ok, Err, refl, sym, ap, subst, append_assoc, length-append, length-drop, arith}
use Rattle.std.specs.Result.{result_ok}
use Rattle.std.specs.List.{flat_map, list_any}
use Rattle.std.specs.Str.{bytes_eq}
use Rattle.std.specs.Int.{Width, w32, w64, byte_len, from_be_bytes, to_be_bytes}
use Rattle.std.proofs.lemmas.Bool.{ltb-false, eqb-true}
use Rattle.std.proofs.lemmas.List.{take-append-drop, append-nil}
use Rattle.channel_values.specs.declared.fault.ByteFault.{ByteFault}
use Rattle.channel_values.specs.declared.fault.ByteFault.TheVariants as faults
use Rattle.channel_values.specs.Parts.{FixedParts, fixed_with}
use Rattle.channel_values.specs.Spelling.{count, fixed}
use Rattle.channel_values.specs.Reading.{byte_at, number_at, front_at, many_at, people_at, key_at, app_at, duration_at, fixed_at, all_of, fixed_of}
use Rattle.channel_values.proofs.Fields.{bind_ok, ok_is, passed, guard_ok, guard_ended, wide32}
use Rattle.step_meanings.specs.Meanings.{valid_fixed}

-- the rest stands at the end of the text
abbrev EndsIn : List ℕ → List ℕ → Type 0
EndsIn text rest = (front : List ℕ) × (text ≡ front ++ rest)

ends_self : (text : List ℕ) → EndsIn text text
ends_self text = ([], refl)

ends_then : (a b c : List ℕ) → EndsIn a b → EndsIn b c → EndsIn a c
ends_then a b c p q = (p.0 ++ q.0, p.1 ∙ ap (λ (t : List ℕ). p.0 ++ t) q.1 ∙ sym (append_assoc p.0 q.0 c))

ends_drop : (n : ℕ) (text : List ℕ) → EndsIn text (drop n text)
ends_drop n text = (take n text, sym (take-append-drop n text))

byte_ends : (whole : ℕ) (text : List ℕ) (x : ℕ × List ℕ) → byte_at whole text ≡ Ok x → EndsIn text x.1
byte_ends whole [] x e = absurd cc
byte_ends whole (b ∷ rest) x e = subst (λ (y : ℕ × List ℕ). EndsIn (b ∷ rest) y.1) (ok_is (b, rest) x e) (b ∷ [], refl)

number_ends : (whole : ℕ) (w : Width) (text : List ℕ) (x : ℕ × List ℕ) → number_at whole w text ≡ Ok x → EndsIn text x.1
number_ends whole w text x e =
    let g = guard_ok (ltb (length text) (byte_len w)) (faults.Cut whole) (from_be_bytes w (take (byte_len w) text), drop (byte_len w) text) x e in
    subst (λ (y : ℕ × List ℕ). EndsIn text y.1) g.1 (ends_drop (byte_len w) text)

key_ends : (whole : ℕ) (seen : List (List ℕ)) (text : List ℕ) (x : List ℕ × List ℕ) → key_at whole seen text ≡ Ok x → EndsIn text x.1
unfolding key_at
key_ends whole seen text x e =
    let a = bind_ok (front_at whole 56 text) _ x e in
    let g = guard_ok (ltb (length text) 56) (faults.Cut whole) (take 56 text, drop 56 text) a.0 a.1 in
    let fresh = passed (list_any (λ (k : List ℕ). bytes_eq k a.0.0) seen) _ _ x a.2 in
    subst (λ (y : List ℕ × List ℕ). EndsIn text y.1) (g.1 ∙ ok_is a.0 x fresh.1) (ends_drop 56 text)

many_ends : (whole : ℕ) (n : ℕ) (seen : List (List ℕ)) (text : List ℕ) (x : List (List ℕ) × List ℕ) → many_at (key_at whole) seen n text ≡ Ok x → EndsIn text x.1
unfolding many_at
many_ends whole zero seen text x e = subst (λ (y : List (List ℕ) × List ℕ). EndsIn text y.1) (ok_is (seen, text) x e) (ends_self text)
many_ends whole (suc n) seen text x e =
    let a = bind_ok (key_at whole seen text) _ x e in
    ends_then text a.0.1 x.1 (key_ends whole seen text a.0 a.1) (many_ends whole n (seen ++ a.0.0 ∷ []) a.0.1 x a.2)

people_ends : (whole : ℕ) (text : List ℕ) (x : ℕ × List ℕ) → people_at whole text ≡ Ok x → EndsIn text x.1
unfolding people_at
people_ends whole text x e =
    let a = bind_ok (byte_at whole text) _ x e in
    let p = passed (ltb a.0.0 2) _ _ x a.2 in
    let q = passed (ltb 4 a.0.0) _ _ x p.1 in
    subst (λ (y : ℕ × List ℕ). EndsIn text y.1) (ok_is a.0 x q.1) (byte_ends whole text a.0 a.1)

app_ends : (whole n : ℕ) (text : List ℕ) (x : ℕ × List ℕ) → app_at whole n text ≡ Ok x → EndsIn text x.1
unfolding app_at
app_ends whole n text x e =
    let a = bind_ok (byte_at whole text) _ x e in
    let p = passed (ltb 2 a.0.0) _ _ x a.2 in
    let q = passed (eqb a.0.0 1 && not (eqb n 2)) _ _ x p.1 in
    subst (λ (y : ℕ × List ℕ). EndsIn text y.1) (ok_is a.0 x q.1) (byte_ends whole text a.0 a.1)

-- the last four bytes are the duration
record LastFour (text : List ℕ) (duration : ℕ) : Type 0 where
  last : List ℕ
  four : length last ≡ 4
  ends : EndsIn text last
  is : duration ≡ from_be_bytes w32 last

take_all : (n : ℕ) (text : List ℕ) → drop n text ≡ [] → take n text ≡ text
take_all n text e = sym (append-nil (take n text)) ∙ ap (λ (t : List ℕ). take n text ++ t) (sym e) ∙ take-append-drop n text

duration_last : (whole : ℕ) (text : List ℕ) (x : ℕ × List ℕ) → duration_at whole text ≡ Ok x → x.1 ≡ [] → LastFour text x.0
unfolding duration_at
duration_last whole text x e nothing =
    let a = bind_ok (number_at whole w32 text) _ x e in
    let g = guard_ok (ltb (length text) 4) (faults.Cut whole) (from_be_bytes w32 (take 4 text), drop 4 text) a.0 a.1 in
    let p = passed (eqb a.0.0 0) _ _ x a.2 in
    let same : (from_be_bytes w32 (take 4 text), drop 4 text) ≡ x = g.1 ∙ ok_is a.0 x p.1 in
    let none : drop 4 text ≡ [] = ap (λ (y : ℕ × List ℕ). y.1) same ∙ nothing in
    let long : 4 ≤ length text = ltb-false _ _ g.0 in
    let short = length-drop 4 text in
    let gone : length (drop 4 text) ≡ 0 = ap length none in
    record {
      last = text;
      four = omega (arith, long, short, gone);
      ends = ends_self text;
      is = sym (ap (λ (y : ℕ × List ℕ). y.0) same) ∙ ap (from_be_bytes w32) (take_all 4 text none);
    }

nil_from : (xs : List ℕ) → length xs ≡ 0 → xs ≡ []
nil_from [] e = refl
nil_from (x ∷ xs) e = absurd (omega (arith, e))

fixed_last : (text : List ℕ) (f : FixedParts) → fixed_of text ≡ Ok f → LastFour text f.duration
unfolding all_of fixed_at
fixed_last text f e =
    let whole = length text in
    let x = bind_ok (fixed_at whole text) _ f e in
    let done = guard_ended (eqb (length x.0.1) 0) _ x.0.0 f x.2 in
    let nothing : x.0.1 ≡ [] = nil_from x.0.1 (eqb-true _ _ done.0) in
    let a = bind_ok (people_at whole text) _ x.0 x.1 in
    let b = bind_ok (many_at (key_at whole) [] a.0.0 a.0.1) _ x.0 a.2 in
    let n = bind_ok (number_at whole w64 b.0.1) _ x.0 b.2 in
    let p = bind_ok (app_at whole a.0.0 n.0.1) _ x.0 n.2 in
    let d = bind_ok (duration_at whole p.0.1) _ x.0 p.2 in
    let made : (fixed_with b.0.0 n.0.0 p.0.0 d.0.0, d.0.1) ≡ x.0 = ok_is _ x.0 d.2 in
    let l = duration_last whole p.0.1 d.0 d.1 (ap (λ (y : FixedParts × List ℕ). y.1) made ∙ nothing) in
    record {
      last = l.last;
      four = l.four;
      ends = ends_then text p.0.1 l.last
          (ends_then text n.0.1 p.0.1
          (ends_then text b.0.1 n.0.1
          (ends_then text a.0.1 b.0.1 (people_ends whole text a.0 a.1) (many_ends whole a.0.0 [] a.0.1 b.0 b.1))
          (number_ends whole w64 b.0.1 n.0 n.1))
          (app_ends whole a.0.0 n.0.1 p.0 p.1))
          l.ends;
      is = ap (λ (y : FixedParts). y.duration) (sym done.1) ∙ sym (ap (λ (y : FixedParts × List ℕ). y.0.duration) made) ∙ l.is;
    }

-- two texts that are one and end in as many bytes, end in the same
same_ends : (a b c d : List ℕ) → a ++ b ≡ c ++ d → length b ≡ length d → b ≡ d
same_ends [] b [] d e same = e
same_ends [] b (y ∷ c) d e same = absurd (omega (arith, ap length e, length-append c d, same))
same_ends (x ∷ a) b [] d e same = absurd (omega (arith, ap length e, length-append a b, same))
same_ends (x ∷ a) b (y ∷ c) d e same = same_ends a b c d (ap (drop 1) e) same

spelled_last : (f : FixedParts) → EndsIn (fixed f) (to_be_bytes w32 f.duration)
unfolding fixed
spelled_last f =
    let keys : List ℕ = flat_map (λ key. key) f.keys in
    let nonce : List ℕ = to_be_bytes w64 f.nonce in
    let duration : List ℕ = to_be_bytes w32 f.duration in (
      count (length f.keys) ∷ (keys ++ (nonce ++ f.app ∷ [])),
      ap (λ (t : List ℕ). count (length f.keys) ∷ t)
          (ap (λ (t : List ℕ). keys ++ t) (sym (append_assoc nonce (f.app ∷ []) duration)) ∙ sym (append_assoc keys (nonce ++ f.app ∷ []) duration)),
    )

some_is : {A : Type 0} (r : Result A ByteFault) (x : A) → result_ok r ≡ Some x → r ≡ Ok x
some_is (Ok y) x e = cc
some_is (Err f) x e = absurd cc

pub same_duration : (made f : FixedParts) → made.duration < 2 ^ 32 → valid_fixed made ≡ Some f → f.duration ≡ made.duration
same_duration made f low e =
    let l = fixed_last (fixed made) f (some_is (fixed_of (fixed made)) f e) in
    let s = spelled_last made in
    let same : l.last ≡ to_be_bytes w32 made.duration = same_ends l.ends.0 l.last s.0 (to_be_bytes w32 made.duration) (sym l.ends.1 ∙ s.1) (l.four ∙ sym (wide32.len made.duration)) in
    l.is ∙ ap (from_be_bytes w32) same ∙ wide32.again made.duration low
