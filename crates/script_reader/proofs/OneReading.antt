-- The same bytes have one reading: those that are a script break no rule, and else one rule is broken first.
use Rattle.std.proofs.Common.{◌≡◌, ℕ, List, Result, Ok, Err, sym, ◌∙◌, ap, inl, inr}
use Rattle.std.specs.Prelude.{Bool}
use Rattle.serde_json.specs.Data.{Data}
use Rattle.script_reader.specs.Script.{IsJson, IsNoJson, IsScript, Breaks, start, script_of}
use Rattle.script_reader.specs.declared.script.ScriptFault.{ScriptFault}
use Rattle.script_reader.specs.declared.script.ScriptFault.TheVariants.{Broken}
use Rattle.script_steps.specs.declared.step.Rule.{Rule}
use Rattle.script_steps.specs.declared.step.Step.{Step}

one_value : (bytes : List ℕ) (d e : Data) → IsJson bytes d → IsJson bytes e → d ≡ e
one_value bytes d e p q = let a = p.1 in let b = q.1 in cc

no_value : (bytes : List ℕ) (d : Data) → IsJson bytes d → IsNoJson bytes → ⊥
no_value bytes d p q = let a = p.1 in let b = q p.0 in cc

same_steps : {A E : Type 0} (r : Result A E) (x y : A) → r ≡ Ok x → r ≡ Ok y → x ≡ y
same_steps r x y p q = cc

no_fault : {A E : Type 0} (r : Result A E) (x : A) (e : E) → r ≡ Ok x → r ≡ Err e → ⊥
no_fault r x e p q = cc

pub one_script : (race : Bool) (bytes : List ℕ) (ss ts : List Step) → IsScript race bytes ss → IsScript race bytes ts → ss ≡ ts
one_script race bytes ss ts p q =
    let same = one_value bytes p.0 q.0 p.1 q.1 in
    same_steps (script_of (start race) p.0) ss ts p.2 (ap (script_of (start race)) same ∙ q.2)

pub script_breaks_none : (race : Bool) (step : ℕ) (rule : Rule) (bytes : List ℕ) (steps : List Step) → IsScript race bytes steps → Breaks race step rule bytes → ⊥
script_breaks_none race step rule bytes steps s (inl b) = no_value bytes s.0 s.1 b.0
script_breaks_none race step rule bytes steps s (inr b) =
    let same = one_value bytes s.0 b.0 s.1 b.1 in
    no_fault (script_of (start race) s.0) steps _ s.2 (ap (script_of (start race)) same ∙ b.2)

same_fault : {A : Type 0} (r : Result A ScriptFault) (m n : ℕ) (p q : Rule) → r ≡ Err (Broken m p) → r ≡ Err (Broken n q) → (m ≡ n) × (p ≡ q)
same_fault r m n p q a b = let same : Err (Broken m p) ≡ Err (Broken n q) = sym a ∙ b in (cc, cc)

pub one_fault : (race : Bool) (m n : ℕ) (p q : Rule) (bytes : List ℕ) → Breaks race m p bytes → Breaks race n q bytes → (m ≡ n) × (p ≡ q)
one_fault race m n p q bytes (inl a) (inl b) = (a.1 ∙ sym b.1, a.2 ∙ sym b.2)
one_fault race m n p q bytes (inl a) (inr b) = absurd (no_value bytes b.0 b.1 a.0)
one_fault race m n p q bytes (inr a) (inl b) = absurd (no_value bytes a.0 a.1 b.0)
one_fault race m n p q bytes (inr a) (inr b) =
    let same = one_value bytes a.0 b.0 a.1 b.1 in
    same_fault (script_of (start race) a.0) m n p q a.2 (ap (script_of (start race)) same ∙ b.2)
