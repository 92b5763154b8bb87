-- Where digests are hashes and no two strings have one, a state that was noted is told by its digest.
use Rattle.std.proofs.Common.{◌≡◌, ℕ, Bool, true, false, List, inl, length, refl, sym, ◌∙◌, ap, subst}
use Rattle.std.specs.Prelude.{Some, None, Result, Ok, Err, flat_map, Contains}
use Rattle.std.specs.Str.{bytes_eq}
use Rattle.channel_values.specs.Outcomes.{IsName}
use Rattle.channel_values.specs.Parts.{FixedParts, IsState}
use Rattle.channel_values.specs.Spelling.{fixed, state}
use Rattle.channel_values.specs.declared.chain.Signed.{Signed}
use Rattle.channel_values.specs.declared.fault.ByteFault.{ByteFault}
use Rattle.channel_values.proofs.Format.{spelled_once}
use Rattle.channel_values.proofs.Formats.{state_format}
use Rattle.sha2.proofs.Facts256.{length-sha256}
use Rattle.channel_values.specs.Digests.{channel_string, state_string, name_of_channel}
use Rattle.channel_values.specs.Laws.{Tells}
use Rattle.channel_values.proofs.Telling.{digests_tell}
use Rattle.call_history.specs.Reading.{message_of}
use Rattle.call_history.specs.Spelling.{Message}
use Rattle.call_history.specs.declared.event.Deed.{Deed}
use Rattle.call_history.specs.declared.event.Deed.TheVariants as deeds
use Rattle.call_history.proofs.Names.{same_bytes}
use Rattle.channel_safety.specs.Hashed.{of_fixed, of_deed, of_message, of_line, of_entry, hashed}
use Rattle.channel_safety.specs.Journals.{In, Line, opened, some_if, made_in, told_in, noted_in}
use Rattle.channel_safety.specs.Strings.{signed_of}
use Rattle.channel_safety.proofs.Members.{In-append_right, In-flat_map, contains}
use Rattle.channel_safety.proofs.Tests.{some-eq, none-eq}
use Rattle.channel_safety.proofs.Places.{made-noted}
use Rattle.share_laws.specs.HeldLaws.{HashesTellNoted}

length-named : (f : FixedParts) → length (name_of_channel (fixed f)) ≡ 32
unfolding name_of_channel
length-named f = length-sha256 (channel_string (fixed f))

-- the string of a state that was noted is hashed
named-string : (c name : List ℕ) (u s : Signed) (b : Bool) → bytes_eq name c ≡ b → some_if b u ≡ Some s → state_string c (state s.state) ≡ state_string name (state u.state)
named-string c name u s true n e = ap (λ (x : List ℕ). state_string x (state s.state)) (sym (same_bytes name c n)) ∙ ap (λ (x : Signed). state_string name (state x.state)) (sym (some-eq u s e))
named-string c name u s false n e = absurd (none-eq s e)

told-string : (c : List ℕ) (s : Signed) (m : Result Message ByteFault) → told_in c m ≡ Some s → In (state_string c (state s.state)) (of_message m)
told-string c s (Ok message) e = inl (named-string c message.0 message.1 s (bytes_eq message.0 c) refl e)
told-string c s (Err fault) e = absurd (none-eq s e)

noted-string : (c : List ℕ) (d : Deed) (s : Signed) → noted_in c d ≡ Some s → In (state_string c (state s.state)) (of_deed d)
noted-string c (deeds.Signed name t signature) s e = inl (named-string c name (record { state = t; signature = signature }) s (bytes_eq name c) refl e)
noted-string c (deeds.Handled bytes None) s e = told-string c s (message_of bytes) e
noted-string c _ s e = cc

-- what the participant signed in a channel
made-signed : (c : List ℕ) (d : Deed) (t : Signed) → made_in c d ≡ Some t → signed_of d ≡ Some (c, t.state)
made-signed c (deeds.Signed name s signature) t e = go (bytes_eq name c) refl e
  where
    made : Signed
    made = record { state = s; signature = signature }

    go : (b : Bool) → bytes_eq name c ≡ b → some_if b made ≡ Some t → signed_of (deeds.Signed name s signature) ≡ Some (c, t.state)
    go true n q = subst (λ (x : List ℕ). signed_of (deeds.Signed name s signature) ≡ Some (x, t.state)) (same_bytes name c n)
        (subst (λ (x : Signed). signed_of (deeds.Signed name s signature) ≡ Some (name, x.state)) (some-eq made t q) refl)
    go false n q = absurd (none-eq t q)
made-signed c _ t e = cc

pub noted_tell : HashesTellNoted
noted_tell r h journal by valid none f channel x y s t i noted j made same =
    let k =
    told.states (r.named f) channel (state s.state) (state t.state)
    (subst (λ (b : List ℕ). length b ≡ 32) (sym (by.named f)) (length-named f))
    signed.0.0 (there (r.named f) x s i noted) (there channel y t j (made-noted channel y.deed t made))
    (sym (by.digest (r.named f) s.state) ∙ (same ∙ by.digest channel t.state)) in
    (k.0, spelled_once state_format s.state t.state (valid.noted x (r.named f) s i noted) signed.1 k.1)
  where
    told : Tells (hashed h journal)
    told = digests_tell (hashed h journal) none

    signed : IsName channel × IsState t.state
    signed = valid.signed y channel t.state j (made-signed channel y.deed t made)

    there : (c : List ℕ) (z : Line) (u : Signed) → In z journal → noted_in c z.deed ≡ Some u → Contains (hashed h journal) (state_string c (state u.state))
    there c z u i e =
        contains (state_string c (state u.state)) (hashed h journal)
        (In-append_right (state_string c (state u.state)) (flat_map of_entry h) (flat_map of_line journal)
        (In-flat_map of_line (state_string c (state u.state)) z journal i
        (In-append_right (state_string c (state u.state)) (flat_map of_fixed (opened z)) (of_deed z.deed) (noted-string c z.deed u e))))
