-- The smaller and the larger of two doubles, and a double's size, written out: what Rust's `f64::min`, `max` and `abs` answer where no NaN comes in,
-- zeros of either sign being one number. Definitions only; the laws are in proofs/Choices.antt.
use Rattle.std.specs.Prelude.{cond, Float}
use Rattle.std.specs.Float.{binary64}
use Rattle.std.specs.Float.Ieee.{of_bits, lt, neg}

unfoldable pub min : Float → Float → Float
min a b = cond (lt b a) b a

unfoldable pub max : Float → Float → Float
max a b = cond (lt a b) b a

unfoldable pub abs : Float → Float
abs x = cond (lt x (of_bits binary64 0)) (neg x) x
