-- For callers of `common_region`: what is counted and what stands in the output, by its contract; rectangles as numbers, and back; and that a list of at most
-- 512 valid rectangles has no more pieces than that, so that with room for 512 pieces it is accepted. Assumes nothing.
use mathlib.Core.Path.{◌≡◌, refl, sym, ap, ◌∙◌}
use mathlib.Core.Bool.{Bool, true, false, cond}
use mathlib.Core.List.{List, [], ◌∷◌, ◌++◌}
use Prim.Native.Nat.{ℕ, ◌*◌, ◌%◌, ◌≤◌}
use native.Mathlib.Omega.{arith}
use borrow.Author.Tests.{leb-true, eq-eqb, ne_eqb}
use lib.ListN.{length, take, drop}
use lib.Seq.{take_at, drop_at}
use lib.Dec.{eqb}
use lib.Ieee.{Float, lt, of_bits}
use Rattle.order.proofs.Ranks.{and_r}
use Rattle.consts.specs.Refusal.{given}
use Rattle.r1.specs.Line as line
use Rattle.s2.specs.declared.rect.Rect.{Rect}
use Rattle.s2.specs.Zone.{FULL}
use Rattle.s2.specs.Places.{Valid}
use Rattle.entries.specs.Lists.{All, whole, whole_length}
use Rattle.lists.proofs.RectLists.{length-numbers}
use Rattle.lists.specs.Rects.{rects_of, numbers_of, as_read_all}
use Rattle.region.specs.declared.region.Pieces.{Pieces}
use Rattle.arcs.specs.Clipping.{steps, common}
use Rattle.region.specs.Region.{band_from, lngs, across, region}
use Rattle.region.specs.Answers.{pieces_of, refusal_of, entry_of, answer, left, Promised}
use Rattle.region.proofs.Laws.{at_most, accepts}

length-rects : (l : List Float) → 4 * length (rects_of l) ≤ length l
unfolding rects_of
length-rects [] = omega arith
length-rects (a ∷ []) = omega arith
length-rects (a ∷ (b ∷ [])) = omega arith
length-rects (a ∷ (b ∷ (c ∷ []))) = omega arith
length-rects (a ∷ (b ∷ (c ∷ (d ∷ l)))) = omega (arith, length-rects l)

-- an empty list has the full rectangle, once
pub one-full : pieces_of [] ≡ FULL ∷ []
unfolding pieces_of rects_of region as_read_all band_from across lngs common steps line.is_empty lt of_bits
one-full = refl

pub pieces-few : (l : List Float) → All Valid (rects_of l) → length l ≤ 2048 → length (pieces_of l) ≤ 512
unfolding pieces_of rects_of
pieces-few l v h = go (rects_of l) v (length-rects l)
  where
    go : (rs : List Rect) → All Valid rs → 4 * length rs ≤ length l → length (region (as_read_all rs)) ≤ 512
    go [] v k = omega (arith, ap length one-full)
    go (r ∷ rs) v k = omega (arith, at_most (r ∷ rs) v (omega arith), h)

-- ---- what `common_region` answers and leaves, by its contract
module _ {l out : List Float} {r : Pieces} {out' : List Float} (p : Promised l out r out') where
  pub refusal_is : r.refusal ≡ refusal_of l (length out)
  unfolding answer
  refusal_is = ap (λ (z : Pieces). z.refusal) p.answers

  pub entry-is : r.entry ≡ entry_of l
  unfolding answer
  entry-is = ap (λ (z : Pieces). z.entry) p.answers

  count-is : r.count ≡ given (refusal_of l (length out)) (length (pieces_of l)) 0
  unfolding answer
  count-is = ap (λ (z : Pieces). z.count) p.answers

  left_is : out' ≡ given (refusal_of l (length out)) (numbers_of (pieces_of l) ++ drop (4 * length (pieces_of l)) out) out
  unfolding left
  left_is = p.leaves

  -- accepted, the pieces due are in the output, with what was there behind them
  module _ (a : r.refusal ≡ 0) where
    zero : eqb (refusal_of l (length out)) 0 ≡ true
    zero = eq-eqb _ 0 (sym refusal_is ∙ a)

    pub counted : r.count ≡ length (pieces_of l)
    counted = count-is ∙ ap (λ (t : Bool). cond t (length (pieces_of l)) 0) zero

    filled : out' ≡ numbers_of (pieces_of l) ++ drop (4 * length (pieces_of l)) out
    filled = left_is ∙ ap (λ (t : Bool). cond t (numbers_of (pieces_of l) ++ drop (4 * length (pieces_of l)) out) out) zero

    pub front : take (4 * r.count) out' ≡ numbers_of (pieces_of l)
    front =
        ap (λ (n : ℕ). take (4 * n) out') counted ∙ ap (take (4 * length (pieces_of l))) filled
        ∙ take_at (numbers_of (pieces_of l)) (drop (4 * length (pieces_of l)) out) (4 * length (pieces_of l)) (length-numbers (pieces_of l))

    pub behind : drop (4 * r.count) out' ≡ drop (4 * r.count) out
    behind =
        ap (λ (n : ℕ). drop (4 * n) out') counted ∙ ap (drop (4 * length (pieces_of l))) filled
        ∙ drop_at (numbers_of (pieces_of l)) (drop (4 * length (pieces_of l)) out) (4 * length (pieces_of l)) (length-numbers (pieces_of l))
        ∙ ap (λ (n : ℕ). drop (4 * n) out) (sym counted)

  -- refused, there are none
  module _ (a : r.refusal ≡ 0 → ⊥) where
    not-zero : eqb (refusal_of l (length out)) 0 ≡ false
    not-zero = ne_eqb _ 0 (λ e. a (refusal_is ∙ e))

    pub no_pieces : r.count ≡ 0
    no_pieces = count-is ∙ ap (λ (t : Bool). cond t (length (pieces_of l)) 0) not-zero

-- with room for 512 pieces, a list of valid rectangles is accepted
pub record IsListed (l : List Float) (n : ℕ) (o : List Float) : Type 0 where
  pub few : n ≤ 512
  pub count : n ≡ length (pieces_of l)
  pub is : take (4 * n) o ≡ numbers_of (pieces_of l)

pub listed_under : (l out : List Float) (r : Pieces) (o : List Float) → whole 4 512 l ≡ true → All Valid (rects_of l) → length out ≡ 2048 → Promised l out r o
    → r.refusal ≡ 0
unfolding whole_length
listed_under l out r o h v e p =
    let k : length (pieces_of l) ≤ 512 = pieces-few l v (leb-true (length l) 2048 (and_r (eqb (length l % 4) 0) _ h)) in
    refusal_is p ∙ accepts l (length out) h v (omega (arith, e, k))

pub listing : (l out : List Float) (r : Pieces) (o : List Float) → whole 4 512 l ≡ true → All Valid (rects_of l) → length out ≡ 2048 → Promised l out r o
    → IsListed l r.count o
unfolding whole_length
listing l out r o h v e p =
    let k : length (pieces_of l) ≤ 512 = pieces-few l v (leb-true (length l) 2048 (and_r (eqb (length l % 4) 0) _ h)) in
    let a = listed_under l out r o h v e p in
    let c = counted p a in
    record { few = omega (arith, c, k); count = c; is = front p a }
