-- `region::region::common_region`: the list's length is refused by the promise's own test; the rest is what `region_sized` promises, with the entry. Assumes nothing.
use mathlib.Core.Path.{◌≡◌, refl, sym, ◌∙◌, subst}
use mathlib.Core.Bool.{true, false}
use mathlib.Core.List.{List}
use Prim.Native.Nat.{ℕ, ◌%◌, ◌≤◌}
use native.Mathlib.Omega.{arith}
use lib.ListN.{length}
use lib.Ieee.{Float}
use Rattle.consts.specs.Refusal.{of_entry}
use Rattle.entries.proofs.Lengths.{whole_multiple, whole-short}
use Rattle.entries.specs.Lists.{whole}
use Rattle.region.specs.Answers.{refusal_of, Promised}
use Rattle.region.proofs.Cases.{bad-list, no-list, refused}
use Rattle.region.proofs.Refusals.{no-entry}
use Rattle.region.proofs.Listings.{refusal_is}
use Rattle.region.proofs.region.common_region.Goals as goal

few : (l : List Float) → whole 4 512 l ≡ true → (length l % 4 ≡ 0) × (length l ≤ 2048)
few l w = (whole_multiple 4 512 (length l) w, omega (arith, whole-short 4 512 (length l) w))

pub returns-then-not-whole : goal.returns-then-not-whole
returns-then-not-whole c =
    let l = c.args.list.now in
    let o = c.args.out.now in
    let w : whole 4 512 l ≡ false = sym c.whole.ensures ∙ c.if-not-whole.true in
    refused l o 5 0 (bad-list l (length o) w) (λ z. omega arith) (no-list l w)

pub region_sized-requires : goal.region_sized-requires
region_sized-requires c = few c.args.list.now (sym c.whole.ensures ∙ c.if-not-whole.false)

pub entry_in-requires : goal.entry_in-requires
entry_in-requires c = few c.args.list.now (sym c.whole.ensures ∙ c.if-not-whole.false)

pub returns-in-Ok : goal.returns-in-Ok
returns-in-Ok c =
    let l = c.args.list.now in
    let o = c.args.out.now in
    let number_is : 0 ≡ refusal_of l (length o) = refusal_is c.in-Ok.ensures in
    let none = no-entry l (length o) (subst (λ (n : ℕ). of_entry n ≡ false) number_is (unfold of_entry in refl)) in
    subst (λ (k : ℕ). Promised l o (record { refusal = 0; count = c.in-Ok.count; entry = k }) c.region_sized.new.out) none c.in-Ok.ensures
