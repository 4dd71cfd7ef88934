-- `region` lists the common region. A latitude lies in the band and a longitude place in every arc exactly when the place lies in every rectangle, so that
-- what clipping finds of the arcs holds of the rectangles; and to read the rectangles first changes no place. Assumes nothing.
use mathlib.Core.Path.{◌≡◌, refl, sym, ap, ◌∙◌}
use mathlib.Core.Bool.{Bool, true, false, ◌&&◌, ◌||◌, cond, false≢true}
use mathlib.Core.List.{List, [], ◌∷◌}
use lib.Ieee.{Float, of_bits, fits, lt, le, eq}
use Rattle.order.proofs.Ranks.{and_r}
use Rattle.consts.specs.Reading.{in_reach, plain}
use Rattle.consts.proofs.Readings.{plain-plain}
use Rattle.r1.specs.declared.interval.Interval.{Interval as Line}
use Rattle.r1.specs.Line as line
use Rattle.r1.specs.Places.{holds as lat_holds}
use Rattle.r1.proofs.Ends.{intersection-ends}
use Rattle.r1.proofs.Trials.{intersection-at}
use Rattle.s1.specs.declared.interval.Interval.{Interval as Circle}
use Rattle.s1.specs.Circle as circle
use Rattle.s1.specs.Places.{Place as LngPlace, Valid as LngValid, holds as lng_holds}
use Rattle.s2.specs.declared.place.Place.{Place}
use Rattle.s2.specs.declared.rect.Rect.{Rect}
use Rattle.s2.specs.Zone.{LATITUDES, box, latitude, is_empty}
use Rattle.s2.specs.Reading.{as_read}
use Rattle.s2.specs.Places.{IsPlace, place_at, Valid, holds}
use Rattle.s2.proofs.Readings.{valid-read, holds_read, lat-place}
use Rattle.s2.proofs.Latitudes.{Range, range-reach, intersection-range, filled}
use Rattle.s2.proofs.Valid.{range, made}
use Rattle.entries.specs.Lists.{All, Pairs}
use Rattle.entries.proofs.Entries.{pairs-map}
use Rattle.lists.specs.Rects.{as_read_all}
use Rattle.arcs.specs.CommonArcs.{every_holds, some_holds, ArcsApart, ArcsUnjoined, LowerArc, PlainArc, AreRead, CommonArcs}
use Rattle.arcs.specs.Clipping.{common}
use Rattle.arcs.proofs.Clipping.{common-is}
use Rattle.region.specs.CommonRegion.{in_every, in_some, Apart, Unjoined, Lower, CommonRegion}
use Rattle.region.specs.Region.{band_from, lngs, across, region}

-- ---- the band: it keeps to the latitudes, and holds what every latitude interval holds
latitudes-range : Range LATITUDES
unfolding latitude in_reach fits of_bits le lt eq
latitudes-range =
    record {
      south = record { is-place = record { is-double = refl; in-reach = refl }; in-range = refl };
      north = record { is-place = record { is-double = refl; in-reach = refl }; in-range = refl };
    }

range-band : (b : Line) (rs : List Rect) → Range b → All Valid rs → Range (band_from b rs)
unfolding band_from
range-band b [] n v = n
range-band b (r ∷ l) n v = range-band (line.intersection b r.lat) l (intersection-range n (range v.0)) v.1

turn : (b i e x l r : Bool) → b && e ≡ (x && l) && r → b && (i && e) ≡ x && ((l && i) && r)
turn b true e true true r h = h
turn b true e true false r h = h
turn b true e false l r h = h
turn true false e true true r h = refl
turn false false e true true r h = refl
turn true false e true false r h = refl
turn false false e true false r h = refl
turn true false e false l r h = refl
turn false false e false l r h = refl

-- the latitude lies in the band and the longitude place in every arc exactly when the place lies in every rectangle
every-is : (b : Line) (rs : List Rect) → Range b → All Valid rs → {p : Place} → IsPlace p
    → lat_holds (band_from b rs) p.lat && every_holds (lngs rs) p.lng p.gap ≡ lat_holds b p.lat && in_every rs p
unfolding band_from lngs every_holds in_every
every-is b [] n v q = refl
every-is b (r ∷ l) n v {p} q =
    turn (lat_holds (band_from (line.intersection b r.lat) l) p.lat) (lng_holds r.lng p.lng p.gap) (every_holds (lngs l) p.lng p.gap) (lat_holds b p.lat) (lat_holds r.lat p.lat) (in_every l p)
    (every-is (line.intersection b r.lat) l (intersection-range n (range v.0)) v.1 q
    ∙ ap (λ (t : Bool). t && in_every l p) (intersection-at (range-reach n) v.0.lat-reach (lat-place q)))

-- ---- a rectangle for each piece
share : (h i s t : Bool) → s ≡ h && t → (h && i) || s ≡ h && (i || t)
share true true s t e = refl
share true false s t e = e
share false i s t e = e

some_is : (b : Line) (l : List Circle) (p : Place) → in_some (across b l) p ≡ lat_holds b p.lat && some_holds l p.lng p.gap
unfolding across in_some some_holds
some_is b [] p = go (lat_holds b p.lat)
  where
    go : (t : Bool) → false ≡ t && false
    go true = refl
    go false = refl
some_is b (i ∷ l) p = share (lat_holds b p.lat) (lng_holds i p.lng p.gap) (in_some (across b l) p) (some_holds l p.lng p.gap) (some_is b l p)

valid-lngs : (rs : List Rect) → All Valid rs → All LngValid (lngs rs)
unfolding lngs
valid-lngs [] v = tt
valid-lngs (r ∷ l) v = (v.0.lng-valid, valid-lngs l v.1)

all-across : (b : Line) (P : Circle → Type 0) (Q : Rect → Type 0) → ((i : Circle) → P i → Q (box b i)) → (l : List Circle) → All P l → All Q (across b l)
unfolding across
all-across b P Q f [] a = tt
all-across b P Q f (i ∷ l) a = (f i a.0, all-across b P Q f l a.1)

pairs-across : (b : Line) (R : Circle → Circle → Type 0) (S : Rect → Rect → Type 0) → ((i j : Circle) → R i j → S (box b i) (box b j))
    → (l : List Circle) → Pairs R l → Pairs S (across b l)
unfolding across
pairs-across b R S f [] p = tt
pairs-across b R S f (i ∷ l) p = (all-across b (R i) (S (box b i)) (f i) l p.0, pairs-across b R S f l p.1)

both : (P Q : Circle → Type 0) (l : List Circle) → All P l → All Q l → All (λ i. P i × Q i) l
both P Q [] p q = tt
both P Q (i ∷ l) p q = ((p.0, q.0), both P Q l p.1 q.1)

-- ---- no negative zero
abbrev pub Read : Rect → Type 0
Read r = as_read r ≡ r

abbrev Plain : Float → Type 0
Plain x = plain x ≡ x

pub lat-plain : {r : Rect} → Read r → Plain r.lat.lo × Plain r.lat.hi
unfolding as_read
lat-plain e = (ap (λ (z : Rect). z.lat.lo) e, ap (λ (z : Rect). z.lat.hi) e)

pub lng-plain : {r : Rect} → Read r → PlainArc r.lng
unfolding as_read
lng-plain e = (ap (λ (z : Rect). z.lng.lo) e, ap (λ (z : Rect). z.lng.hi) e)

read-box : (b : Line) (i : Circle) → Plain b.lo × Plain b.hi → PlainArc i → Read (box b i)
unfolding as_read
read-box b i p q = λ k. record { lat = record { lo = p.0 k; hi = p.1 k }; lng = record { lo = q.0 k; hi = q.1 k } }

latitudes-plain : Plain LATITUDES.lo × Plain LATITUDES.hi
unfolding plain eq of_bits
latitudes-plain = (refl, refl)

plain-band : (b : Line) (rs : List Rect) → Plain b.lo × Plain b.hi → All Read rs → Plain (band_from b rs).lo × Plain (band_from b rs).hi
unfolding band_from
plain-band b [] p a = p
plain-band b (r ∷ l) p a = plain-band (line.intersection b r.lat) l (intersection-ends Plain Plain b r.lat p (lat-plain a.0)) a.1

plain-lngs : (rs : List Rect) → All Read rs → All PlainArc (lngs rs)
unfolding lngs
plain-lngs [] a = tt
plain-lngs (r ∷ l) a = (lng-plain a.0, plain-lngs l a.1)

-- ---- of rectangles that have been read
module _ (rs : List Rect) (v : All Valid rs) (a : All Read rs) where
  abbrev B : Line
  B = band_from LATITUDES rs

  range-B : Range B
  range-B = range-band LATITUDES rs latitudes-range v

  in-latitudes : {p : Place} → IsPlace p → lat_holds LATITUDES p.lat ≡ true
  unfolding lat_holds latitude
  in-latitudes q = q.is-latitude

  every-rect : {p : Place} → IsPlace p → lat_holds B p.lat && every_holds (lngs rs) p.lng p.gap ≡ in_every rs p
  every-rect {p} q = every-is LATITUDES rs latitudes-range v q ∙ ap (λ (t : Bool). t && in_every rs p) (in-latitudes q)

  outside : line.is_empty B ≡ true → {p : Place} → IsPlace p → (t : Bool) → lat_holds B p.lat ≡ t → lat_holds B p.lat ≡ false
  outside e q true h = absurd (false≢true (sym (filled (range-reach range-B) (lat-place q) h) ∙ e))
  outside e q false h = h

  of_none : line.is_empty B ≡ true → CommonRegion rs []
  unfolding in_some
  of_none e =
      record {
        valid = tt;
        non-empty = tt;
        exact = λ p q. ap (λ (t : Bool). t && every_holds (lngs rs) p.lng p.gap) (sym (outside e q (lat_holds B p.lat) refl)) ∙ every-rect q;
        apart = tt;
        unjoined = tt;
        rising = tt;
        plain = tt;
      }

  joined : (i o : Circle) → ArcsUnjoined (lngs rs) i o → Unjoined rs (box B i) (box B o)
  joined i o u j x w c (p, q, e, h, k) (p', q', e', h', k') =
      u j w (λ s d n m. and_r (lat_holds B p.lat) _ (every-rect (at s d n) ∙ c (place_at p.lat s d) (at s d n) e m)) (p.lng, p.gap, q.lng-place, h, and_r (lat_holds B p.lat) _ k)
      (p'.lng, p'.gap, q'.lng-place, h', and_r (lat_holds B p'.lat) _ k')
    where
      at : (s : Float) (d : Bool) → LngPlace s d → IsPlace (place_at p.lat s d)
      at s d n = record { is-double = q.is-double; is-latitude = q.is-latitude; lng-place = n }

  -- with any pieces that are the common ones of the longitudes
  of-pieces : (ps : List Circle) → CommonArcs (lngs rs) ps → line.is_empty B ≡ false → CommonRegion rs (across B ps)
  unfolding is_empty
  of-pieces ps lng-is e =
      record {
        valid = all-across B (λ i. LngValid i × (circle.is_empty i ≡ false)) Valid (λ i w. made range-B w.0 (e ∙ sym w.1)) ps
            (both LngValid (λ i. circle.is_empty i ≡ false) ps lng-is.valid lng-is.non-empty);
        non-empty = all-across B (λ i. circle.is_empty i ≡ false) (λ r. line.is_empty r.lat ≡ false) (λ i n. e) ps lng-is.non-empty;
        exact = λ p q. some_is B ps p ∙ ap (λ (t : Bool). lat_holds B p.lat && t) (lng-is.exact p.lng p.gap q.lng-place) ∙ every-rect q;
        apart = pairs-across B ArcsApart Apart (λ i o u p q h k. u p.lng p.gap q.lng-place (and_r (lat_holds B p.lat) _ h) (and_r (lat_holds B p.lat) _ k)) ps lng-is.apart;
        unjoined = pairs-across B (ArcsUnjoined (lngs rs)) (Unjoined rs) joined ps lng-is.unjoined;
        rising = pairs-across B LowerArc Lower (λ i o h. h) ps lng-is.rising;
        plain = all-across B PlainArc Read (λ i q. read-box B i (plain-band LATITUDES rs latitudes-plain a) q) ps lng-is.plain;
      }

  pub region-is : CommonRegion rs (region rs)
  unfolding region
  region-is = go (line.is_empty B) refl
    where
      go : (t : Bool) → line.is_empty B ≡ t → CommonRegion rs (cond t [] (across B (common (lngs rs))))
      go true e = of_none e
      go false e = of-pieces (common (lngs rs)) (common-is (lngs rs) (valid-lngs rs v) (plain-lngs rs a)) e

-- ---- lists with the same common places have one common region
pub same-region : (l m listed : List Rect) → ((p : Place) → IsPlace p → in_every l p ≡ in_every m p) → CommonRegion l listed → CommonRegion m listed
same-region l m listed e c =
    record {
      valid = c.valid;
      non-empty = c.non-empty;
      exact = λ p q. c.exact p q ∙ e p q;
      apart = c.apart;
      unjoined = pairs-map (Unjoined l) (Unjoined m) (λ r o u j x v k. u j x v (λ p q a h. e p q ∙ k p q a h)) listed c.unjoined;
      rising = c.rising;
      plain = c.plain;
    }

-- ---- to read rectangles changes no place
valid-all : (rs : List Rect) → All Valid rs → All Valid (as_read_all rs)
unfolding as_read_all
valid-all [] v = tt
valid-all (r ∷ l) v = (valid-read v.0, valid-all l v.1)

pub read_all : (rs : List Rect) → All Read (as_read_all rs)
unfolding as_read_all as_read
read_all [] = tt
read_all (r ∷ l) = (
  λ k. record {
    lat = record { lo = plain-plain r.lat.lo k; hi = plain-plain r.lat.hi k };
    lng = record { lo = plain-plain r.lng.lo k; hi = plain-plain r.lng.hi k };
  },
  read_all l,
)

every-read : (rs : List Rect) → All Valid rs → (p : Place) → IsPlace p → in_every (as_read_all rs) p ≡ in_every rs p
unfolding as_read_all in_every
every-read [] v p q = refl
every-read (r ∷ l) v p q = ap (λ (t : Bool). t && in_every (as_read_all l) p) (holds_read r v.0 p q) ∙ ap (λ (t : Bool). holds r p && t) (every-read l v.1 p q)

-- ---- the theorem: of valid rectangles, the list found is the common region
pub listed-is : (rs : List Rect) → All Valid rs → CommonRegion rs (region (as_read_all rs))
listed-is rs v = same-region (as_read_all rs) rs (region (as_read_all rs)) (every-read rs v) (region-is (as_read_all rs) (valid-all rs v) (read_all rs))

-- and its arcs have been read
pub arcs-read : (rs : List Rect) → All Valid rs → AreRead (lngs (as_read_all rs))
arcs-read rs v = record { valid = valid-lngs (as_read_all rs) (valid-all rs v); plain = plain-lngs (as_read_all rs) (read_all rs) }
