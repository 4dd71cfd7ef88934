-- Laws of texts at the start of the output: its length stays; a byte or a text that is put right behind such a text makes one text with it; and the digits of
-- the kit's libraries `hex` and `io` are those of the specs. Assumes nothing.
use mathlib.Core.Path.{◌≡◌, refl, sym, ap, ◌∙◌}
use mathlib.Core.List.{List, [], ◌∷◌, ◌++◌, append_assoc, map}
use Prim.Native.Nat.{ℕ, zero, suc, ◌+◌, ◌-◌, ◌*◌, ◌/◌, ◌%◌, ◌^◌, ◌≤◌, ◌<◌}
use native.Mathlib.Nat.{pow-suc, div-one, div-div-eq-div-mul, pow-le-pow_right}
use native.Mathlib.Omega.{arith}
use borrow.Rule.Slice.PartMut.{put_mid, mid_of, post_of}
use lib.Dec.{lit<}
use lib.Ieee.{Float}
use lib.ListN.{length, take, drop, get_or, set, length-append, length-drop, drop_of_length-le}
use lib.Pow.{pow-add}
use lib.Seq.{drop-drop, drop-cons, take_at, drop_at}
use Rattle.std.proofs.Common.{append-nil, take_all}
use Rattle.std.proofs.lemmas.Bool.Decides.{nat_tests}
use Rattle.std.proofs.lemmas.List.{set_at}
use Rattle.std.specs.Char.{to_ascii_uppercase}
use Rattle.bits.specs.Pattern.{to_pattern}
use Rattle.std.specs.Int.{bytes_high_first, byte_at}
use Rattle.std.specs.Prelude.{slice_index}
use Rattle.hex.specs.Hex.{encode_with, encode_lower, lower_digits}
use Rattle.io.specs.Digits.{last_digits}
use Rattle.text.specs.Text.{hex_digit, hex, number_text, decimal_text}
use Rattle.text.specs.Inside.{onto}
use Rattle.text.proofs.Lengths.{length-number}

pub length-onto : (t o : List ℕ) → length t ≤ length o → length (onto t o) ≡ length o
length-onto t o h = simp (length-append, length-drop) (omega arith)

-- ---- right behind a text of a length a: a text, in what begins there
pub onto_then : (a k : ℕ) (s t o p q : List ℕ) → length s ≡ a → a + length t ≤ length o → p ≡ onto s o → k ≡ length p - a → q ≡ onto t (mid_of a k p)
    → put_mid a k p q ≡ onto (s ++ t) o
onto_then a k s t o p q e h f g u =
    let v : p ≡ s ++ drop a o = f ∙ ap (λ (n : ℕ). s ++ drop n o) e in
    let b : take a p ≡ s = ap (take a) v ∙ take_at s (drop a o) a e in
    let d : drop a p ≡ drop a o = ap (drop a) v ∙ drop_at s (drop a o) a e in
    let n : length p ≡ length o = ap length f ∙ length-onto s o (omega arith) in
    let m : length (drop a o) ≤ k = simp length-drop (omega arith) in
    let w : mid_of a k p ≡ drop a o = ap (take k) d ∙ take_all k (drop a o) m in
    let z : post_of a k p ≡ [] = ap (drop k) d ∙ drop_of_length-le (drop a o) m in
    let y : a + length t ≡ length (s ++ t) = simp length-append (omega arith) in
    simp (b, z, u, w, append-nil, append_assoc, drop-drop) (ap (λ (i : ℕ). s ++ (t ++ drop i o)) y)

-- ---- and a byte
pub onto_byte : (a m : ℕ) (t o p : List ℕ) → length t ≡ a → a < length o → p ≡ onto t o → set p a m ≡ onto (t ++ (m ∷ [])) o
onto_byte a m t o p e h f =
    let d : suc a ≡ length (t ++ (m ∷ [])) = simp length-append (omega arith) in
    let g : drop a o ≡ get_or o a 0 ∷ drop (suc a) o = drop-cons o a 0 h in
    ap (λ (l : List ℕ). set l a m) (f ∙ ap (λ (n : ℕ). t ++ drop n o) e ∙ ap (λ (l : List ℕ). t ++ l) g)
    ∙ set_at t (get_or o a 0) (drop (suc a) o) m a e ∙ simp append_assoc (ap (λ (n : ℕ). t ++ (m ∷ drop n o)) d)

-- ---- the digits of the kit's `hex`, which are in lower case: raised, they are those of `hex` here
upper_digit : (d : ℕ) → d < 16 → to_ascii_uppercase (slice_index lower_digits d) ≡ hex_digit d
unfolding hex_digit
upper_digit zero h = refl
upper_digit (suc zero) h = refl
upper_digit (suc (suc zero)) h = refl
upper_digit (suc (suc (suc zero))) h = refl
upper_digit (suc (suc (suc (suc zero)))) h = refl
upper_digit (suc (suc (suc (suc (suc zero))))) h = refl
upper_digit (suc (suc (suc (suc (suc (suc zero)))))) h = refl
upper_digit (suc (suc (suc (suc (suc (suc (suc zero))))))) h = refl
upper_digit (suc (suc (suc (suc (suc (suc (suc (suc zero)))))))) h = refl
upper_digit (suc (suc (suc (suc (suc (suc (suc (suc (suc zero))))))))) h = refl
upper_digit (suc (suc (suc (suc (suc (suc (suc (suc (suc (suc zero)))))))))) h = refl
upper_digit (suc (suc (suc (suc (suc (suc (suc (suc (suc (suc (suc zero))))))))))) h = refl
upper_digit (suc (suc (suc (suc (suc (suc (suc (suc (suc (suc (suc (suc zero)))))))))))) h = refl
upper_digit (suc (suc (suc (suc (suc (suc (suc (suc (suc (suc (suc (suc (suc zero))))))))))))) h = refl
upper_digit (suc (suc (suc (suc (suc (suc (suc (suc (suc (suc (suc (suc (suc (suc zero)))))))))))))) h = refl
upper_digit (suc (suc (suc (suc (suc (suc (suc (suc (suc (suc (suc (suc (suc (suc (suc zero))))))))))))))) h = refl
upper_digit (suc (suc (suc (suc (suc (suc (suc (suc (suc (suc (suc (suc (suc (suc (suc (suc d)))))))))))))))) h = absurd (omega arith)

-- a byte is two digits
bytes : (k : ℕ) → 256 ^ k ≡ 2 ^ (8 * k)
bytes zero = refl
bytes (suc k) =
    let e : 8 * k + 8 ≡ 8 * suc k = omega arith in
    pow-suc 256 k ∙ ap (λ (n : ℕ). n * 256) (bytes k) ∙ sym (pow-add 2 (8 * k) 8) ∙ ap (λ (n : ℕ). 2 ^ n) e

byte_is : (k n : ℕ) → byte_at k n ≡ n / 2 ^ (8 * k) % 256
byte_is zero n = ap (λ (m : ℕ). m % 256) (sym (div-one n))
byte_is (suc k) n = ap (λ (p : ℕ). n / p % 256) (bytes (suc k))

encoded : (j k n : ℕ) → j ≡ 2 * k → map to_ascii_uppercase (encode_lower (bytes_high_first k n)) ≡ hex j n
unfolding hex encode_with
encoded zero zero n e = refl
encoded (suc j) zero n e = absurd (omega arith)
encoded zero (suc k) n e = absurd (omega arith)
encoded (suc zero) (suc k) n e = absurd (omega arith)
encoded (suc (suc j)) (suc k) n e =
    let m : ℕ = n / 2 ^ (4 * j) in
    let f : 8 * k ≡ 4 * j = omega arith in
    let b : byte_at k n ≡ m % 256 = byte_is k n ∙ ap (λ (i : ℕ). n / 2 ^ i % 256) f in
    let u : 4 * j + 4 ≡ 4 * suc j = omega arith in
    let v : m / 16 ≡ n / 2 ^ (4 * suc j) = div-div-eq-div-mul n (2 ^ (4 * j)) 16 ∙ ap (λ (p : ℕ). n / p) (sym (pow-add 2 (4 * j) 4) ∙ ap (λ (i : ℕ). 2 ^ i) u) in
    let w : byte_at k n / 16 ≡ m / 16 % 16 = omega arith in
    let y : byte_at k n % 16 ≡ m % 16 = omega arith in
    let r = ap (λ (d : ℕ). to_ascii_uppercase (slice_index lower_digits d)) w ∙ upper_digit (m / 16 % 16) (omega arith) ∙ ap (λ (i : ℕ). hex_digit (i % 16)) v in
    let s = ap (λ (d : ℕ). to_ascii_uppercase (slice_index lower_digits d)) y ∙ upper_digit (m % 16) (omega arith) in
    let g : j ≡ 2 * k = omega arith in
    simp (r, s, encoded j k n g) refl

pub encoded_number : (n : ℕ) (x : Float) (o q : List ℕ) → n ≡ to_pattern x → q ≡ map to_ascii_uppercase (encode_lower (bytes_high_first 8 n)) → q ++ drop 16 o ≡ onto (number_text x) o
unfolding number_text
encoded_number n x o q c g =
    let d : q ≡ number_text x = g ∙ encoded 16 8 n refl ∙ ap (hex 16) c in
    ap (λ (t : List ℕ). t ++ drop 16 o) d ∙ ap (λ (j : ℕ). number_text x ++ drop j o) (sym (length-number x))

-- ---- and those of `io::decimal`, under 1,000
pub decimal_digits : (k n : ℕ) → n < 1000 → 1 ≤ k → n < 10 ^ k → (1 < k → 10 ^ (k - 1) ≤ n) → last_digits 10 k n ≡ decimal_text n
unfolding decimal_text hex_digit
decimal_digits zero n h i j l = absurd (omega arith)
decimal_digits (suc zero) n h i j l = grind (arith, nat_tests)
decimal_digits (suc (suc zero)) n h i j l =
    let m : 10 ≤ n = l (omega arith) in
    grind (arith, nat_tests)
decimal_digits (suc (suc (suc zero))) n h i j l =
    let m : 100 ≤ n = l (omega arith) in
    grind (arith, nat_tests)
decimal_digits (suc (suc (suc (suc k)))) n h i j l =
    let m : 3 ≤ suc (suc (suc (suc k))) - 1 = omega arith in
    let o : 10 ^ 3 ≤ 10 ^ (suc (suc (suc (suc k))) - 1) = pow-le-pow_right (lit< tt) m in
    let q : 10 ^ (suc (suc (suc (suc k))) - 1) ≤ n = l (omega arith) in
    absurd (omega arith)
