-- What reading gives, box and refusal: only boxes that reading can give, four zeros under a refusal, and 9 exactly for an array out of the limits. By the
-- reader's two tests. Assumes nothing.
use mathlib.Core.Path.{◌≡◌, refl, ap, ◌∙◌, subst}
use mathlib.Core.Bool.{Bool, true, false, cond}
use mathlib.Core.List.{List}
use Prim.Native.Nat.{ℕ}
use native.Mathlib.Omega.{arith}
use Rattle.bounds.specs.declared.bounds.Bounds.{Bounds}
use Rattle.bbox.specs.declared.reader.Answer.{Answer}
use Rattle.bbox.specs.Reading.{Four, Numbers, Not}
use Rattle.bounds.specs.Bounds.{in_limits, placed, givable}
use Rattle.bbox_text.specs.Grammar.{Array}
use Rattle.bbox.specs.Reading.{four_of, zeros_under, judged_of, read_of}
use Rattle.bounds.proofs.Boxes.{placed-given}
use Rattle.bbox.proofs.Exactly.{only-arrays}

-- what was accepted: the text is an array of a box within the limits, and -180 is read in it
pub record Accepted (s : List ℕ) : Type 0 where
  pub box : Bounds
  pub array : Array s box
  pub limits : in_limits box ≡ true
  pub is : read_of s ≡ record { refusal = 0; value = placed box }

judged-accepted : (s : List ℕ) (f : Four) → four_of s ≡ f → (judged_of f).refusal ≡ 0 → Accepted s
unfolding judged_of
judged-accepted s Not e h = absurd (omega (arith, h))
judged-accepted s (Numbers b) e h = go (in_limits b) refl
  where
    answer : (t : Bool) → Answer
    answer t = cond t (record { refusal = 0; value = placed b }) (zeros_under 9)

    go : (t : Bool) → in_limits b ≡ t → Accepted s
    go true k =
        record {
          box = b;
          array = only-arrays s b e;
          limits = k;
          is = unfold read_of in ap judged_of e ∙ ap answer k;
        }
    go false k =
        let z : (answer false).refusal ≡ 0 = subst (λ (t : Bool). (answer t).refusal ≡ 0) k h in
        absurd (omega (arith, z))

pub accepted-is : (s : List ℕ) → (read_of s).refusal ≡ 0 → Accepted s
unfolding read_of
accepted-is s h = judged-accepted s (four_of s) refl h

-- reading gives only boxes that it can give
pub reads-given : (s : List ℕ) → (read_of s).refusal ≡ 0 → givable (read_of s).value ≡ true
reads-given s h =
    let a : Accepted s = accepted-is s h in
    ap (λ (r : Answer). givable r.value) a.is ∙ placed-given a.box a.limits

-- a refused reading answers four zeros
judged-zeros : (f : Four) → ((judged_of f).refusal ≡ 0 → ⊥) → judged_of f ≡ zeros_under (judged_of f).refusal
unfolding judged_of
judged-zeros Not h = refl
judged-zeros (Numbers b) h = go (in_limits b) h
  where
    answer : (t : Bool) → Answer
    answer t = cond t (record { refusal = 0; value = placed b }) (zeros_under 9)

    go : (t : Bool) → ((answer t).refusal ≡ 0 → ⊥) → answer t ≡ zeros_under (answer t).refusal
    go true k = absurd (k refl)
    go false k = refl

pub zeros : (s : List ℕ) → ((read_of s).refusal ≡ 0 → ⊥) → read_of s ≡ zeros_under (read_of s).refusal
unfolding read_of
zeros s h = judged-zeros (four_of s) h
