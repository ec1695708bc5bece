-- Where stack objects end: each within the extent of all, which is small.
use Rattle.std.proofs.Common.{◌≡◌, ℕ, zero, suc, ◌+◌, ◌*◌, ◌<◌, ◌≤◌, max, Bool, true}
use Rattle.std.proofs.Common.{false, cond, nat_eq, List, [], ◌∷◌, length, drop, get_or, Option, Some, None}
use Rattle.std.proofs.Common.{refl, ap, sym, ◌∙◌, subst, ℤ, pos, negsuc, arith}
use Rattle.std.specs.Prelude.{All}
use Rattle.std.proofs.Math.Seq.{drop-cons}
use Rattle.std.proofs.lemmas.List.{drop_all}
use Rattle.std.proofs.lemmas.List.Elements.{All-head, All-tail}
use Rattle.mir_func.specs.declared.object.Object.{Object}
use Rattle.mir_func.specs.Objects.{object_of, offset_of, offset_or_zero, up_to, end_past, own_end, AreLaidFrom, ArePlaced, AreLaid, end_from, area_of}
use Rattle.mir_func.specs.Objects.{reach_after, reach_from, block_size, local_offsets, depth_of, depth_from, fixed_area, HasNoFixed, IsFixedAt}
use Rattle.mir_func.specs.Objects.{extent_from, extent_of}
use Rattle.mir_func.specs.Sound.{HasBytes, IsLocalOffset, IsFixedOffset, IsSoundObject}
use Rattle.mir_func.proofs.Laid.{alignment_is_few, past_low, placed_low}

-- ---- the end of all

-- the end of all isn't below the number that it begins with
pub extent_above : (n : ℕ) (os : List Object) → n ≤ extent_from n os
extent_above n [] = omega arith
extent_above n (o ∷ os) = omega (arith, extent_above (max n (o.offset + o.size)) os)

-- each ends by the end of all
extent_within : (n : ℕ) (os : List Object) (k : ℕ) (d : Object) → k < length os → (get_or os k d).offset + (get_or os k d).size ≤ extent_from n os
extent_within n [] k d lt = absurd (omega arith)
extent_within n (o ∷ os) zero d lt = omega (arith, extent_above (max n (o.offset + o.size)) os)
extent_within n (o ∷ os) (suc k) d lt = extent_within (max n (o.offset + o.size)) os k d (omega arith)

-- each object ends within the extent
pub object_within : (os : List Object) (k : ℕ) (d : Object) → k < length os → (get_or os k d).offset + (get_or os k d).size ≤ extent_of os
object_within os k d lt = extent_within (area_of os) os k d lt

-- which isn't below the area
pub area_within : (os : List Object) → area_of os ≤ extent_of os
area_within os = extent_above (area_of os) os

-- so does the object of a number
found_within : (n : ℕ) (os : List Object) (q : ℕ) (x : Object) → object_of os q ≡ Some x → x.offset + x.size ≤ extent_from n os
found_within n [] q x e = absurd cc
found_within n (o ∷ os) q x e = by_test (nat_eq o.id q) (found_within (max n (o.offset + o.size)) os q x) e where
  by_test : (b : Bool) → (object_of os q ≡ Some x → x.offset + x.size ≤ extent_from (max n (o.offset + o.size)) os) →
      cond b (Some o) (object_of os q) ≡ Some x → x.offset + x.size ≤ extent_from (max n (o.offset + o.size)) os
  by_test true later is =
      let same : o ≡ x = cc in
      subst (λ (z : Object). z.offset + z.size ≤ extent_from (max n (o.offset + o.size)) os) same
      (omega (arith, extent_above (max n (o.offset + o.size)) os))
  by_test false later is = later is

-- so many bytes of an object lie within the extent
pub bytes_within : (os : List Object) (q k : ℕ) → HasBytes os q k → offset_of os q + k ≤ extent_of os
bytes_within os q k h =
    let at : offset_of os q ≡ h.0.offset = ap offset_or_zero h.1 in
    omega (arith, found_within (area_of os) os q h.0 h.1, at, h.2)

-- without fixed objects the area goes up to the greatest end
no_depth : (n : ℕ) (os : List Object) → HasNoFixed os → depth_from n os ≡ n
no_depth n [] none = refl
no_depth n (o ∷ os) none =
    let here : o.fixed_offset ≡ None = All-head (λ (x : Object). x.fixed_offset ≡ None) o os none in
    let depth : depth_of o.fixed_offset ≡ 0 = ap depth_of here in
    let same : max n (depth_of o.fixed_offset) ≡ n = omega (arith, depth) in
    ap (λ (m : ℕ). depth_from m os) same ∙ no_depth n os (All-tail (λ (x : Object). x.fixed_offset ≡ None) o os none)

pub no_fixed_area : (os : List Object) → HasNoFixed os → area_of os ≡ up_to 16 (end_from 0 os)
no_fixed_area os none =
    let fixed : fixed_area os ≡ 0 = ap (up_to 16) (no_depth 0 os none) in
    omega (arith, fixed)

-- ---- how large it is

each_low : (block end : ℕ) (os : List Object) → All IsSoundObject os → AreLaidFrom block end os → (k : ℕ) (d : Object) → k < length os →
    (get_or os k d).fixed_offset ≡ None → (get_or os k d).offset + (get_or os k d).size ≤ block + end + length os * 2147483648
each_low block end [] each laid k d lt own = absurd (omega arith)
each_low block end (o ∷ os) each laid zero d lt own =
    let sound = All-head IsSoundObject o os each in
    let few = alignment_is_few o.align sound.aligned in
    omega (arith, placed_low block end o o.fixed_offset few.0 few.1 sound.size laid.0 own)
each_low block end (o ∷ os) each laid (suc k) d lt own =
    let sound = All-head IsSoundObject o os each in
    let few = alignment_is_few o.align sound.aligned in
    let past : ℕ = end_past end o o.fixed_offset in
    let next : past ≤ end + 2147483648 = past_low block end o o.fixed_offset few.0 few.1 sound.size laid.0 in
    let rest = each_low block past os (All-tail IsSoundObject o os each) laid.1 k d (omega arith) own in
    omega (arith, next, rest)

local_low : (n : ℕ) (l : Option ℕ) → n ≤ 1073741823 → IsLocalOffset l → reach_after n l ≤ 1073741823
local_low n None le is = le
local_low n (Some m) le is = omega (arith, le, is.1)

reach_small : (n : ℕ) (os : List Object) → n ≤ 1073741823 → All IsSoundObject os → reach_from n (local_offsets os) ≤ 1073741823
reach_small n [] le each = le
reach_small n (o ∷ os) le each =
    reach_small (reach_after n o.local_offset) os (local_low n o.local_offset le (All-head IsSoundObject o os each).local) (All-tail IsSoundObject o os each)

-- the local block has at most 2 ^ 30 bytes
pub block_small : (os : List Object) → All IsSoundObject os → block_size (local_offsets os) ≤ 1073741824
block_small os each = omega (arith, reach_small 0 os (omega arith) each)

-- the end of each that isn't fixed is low
pub each_own_low : (os : List Object) → length os ≤ 224 → All IsSoundObject os → ArePlaced os → (k : ℕ) (d : Object) → k < length os →
    (get_or os k d).fixed_offset ≡ None → (get_or os k d).offset + (get_or os k d).size ≤ 483183820800
each_own_low os few each laid k d lt own =
    let block = block_size (local_offsets os) in
    let low = each_low block block os each laid k d lt own in
    omega (arith, low, few, block_small os each)

-- so the greatest end of them is
pub own_low : (n : ℕ) (o : Object) (fixed : Option ℤ) → n ≤ 483183820800 → (fixed ≡ None → o.offset + o.size ≤ 483183820800) →
    own_end n o fixed ≤ 483183820800
own_low n o None le low = omega (arith, le, low refl)
own_low n o (Some d) le low = le

ends_low : (n : ℕ) (os : List Object) → n ≤ 483183820800 →
    ((k : ℕ) (d : Object) → k < length os → (get_or os k d).fixed_offset ≡ None → (get_or os k d).offset + (get_or os k d).size ≤ 483183820800) →
    end_from n os ≤ 483183820800
ends_low n [] le low = le
ends_low n (o ∷ os) le low =
    ends_low (own_end n o o.fixed_offset) os (own_low n o o.fixed_offset le (low 0 o (omega arith))) (λ k d lt. low (suc k) d (omega (arith, lt)))

-- and fixed objects begin at most 2 ^ 30 from the end of the area
depth_low : (fixed : Option ℤ) (local : Option ℕ) → IsFixedOffset fixed local → depth_of fixed ≤ 1073741823
depth_low None local is = omega arith
depth_low (Some (pos n)) local is = omega arith
depth_low (Some (negsuc n)) local is = is.0

depths_low : (n : ℕ) (os : List Object) → n ≤ 1073741823 → All IsSoundObject os → depth_from n os ≤ 1073741823
depths_low n [] le each = le
depths_low n (o ∷ os) le each =
    let depth = depth_low o.fixed_offset o.local_offset (All-head IsSoundObject o os each).fixed in
    depths_low (max n (depth_of o.fixed_offset)) os (omega (arith, le, depth)) (All-tail IsSoundObject o os each)

pub area_low : (os : List Object) → length os ≤ 224 → All IsSoundObject os → ArePlaced os → area_of os ≤ 484257562656
area_low os few each laid =
    let ends = ends_low 0 os (omega arith) (each_own_low os few each laid) in
    let depths = depths_low 0 os (omega arith) each in
    omega (arith, ends, depths)

-- the end of each is low
fixed_low : (area : ℕ) (o : Object) (fixed : Option ℤ) → IsFixedOffset fixed o.local_offset → IsFixedAt area o.offset fixed → area ≤ 484257562656 →
    o.size ≤ 1073741823 → (fixed ≡ None → o.offset + o.size ≤ 483183820800) → o.offset + o.size ≤ 486405046304
fixed_low area o None is at le small own = omega (arith, own refl)
fixed_low area o (Some (pos n)) is at le small own = (let near : n ≤ 1073741823 = is.0 in omega (arith, at, near, le, small))
fixed_low area o (Some (negsuc n)) is at le small own = omega (arith, at, le, small)

pub each_ends_low : (os : List Object) → length os ≤ 224 → All IsSoundObject os → AreLaid os → (k : ℕ) (d : Object) → k < length os →
    (get_or os k d).offset + (get_or os k d).size ≤ 486405046304
each_ends_low os few each laid k d lt =
    let sound = each k d lt in
    fixed_low (area_of os) (get_or os k d) (get_or os k d).fixed_offset sound.fixed (laid.fixed k d lt) (area_low os few each laid.each) sound.size
    (each_own_low os few each laid.each k d lt)

-- ---- object by object

pub here_first : (i : ℕ) (o : Object) (os : List Object) → i < length os → o ≡ get_or os i o → drop i os ≡ o ∷ drop (i + 1) os
here_first i o os lt is =
    let next : i + 1 ≡ suc i = omega arith in
    drop-cons os i o lt ∙ ap (λ (x : Object). x ∷ drop (suc i) os) (sym is) ∙ ap (λ (n : ℕ). o ∷ drop n os) (sym next)

pub none_left : (i : ℕ) (os : List Object) → length os ≤ i → drop i os ≡ []
none_left i os le = drop_all i os le

-- the greatest end with one more object
pub end_turn : (end i : ℕ) (o : Object) (os : List Object) → i < length os → o ≡ get_or os i o →
    end_from end (drop i os) ≡ end_from (own_end end o o.fixed_offset) (drop (i + 1) os)
end_turn end i o os lt is = ap (end_from end) (here_first i o os lt is)

-- no object is left
pub end_is : (end i : ℕ) (os : List Object) → length os ≤ i → end_from end (drop i os) ≡ end
end_is end i os le = ap (end_from end) (none_left i os le)

-- the same of the greatest depth
pub depth_turn : (n i : ℕ) (o : Object) (os : List Object) → i < length os → o ≡ get_or os i o →
    depth_from n (drop i os) ≡ depth_from (max n (depth_of o.fixed_offset)) (drop (i + 1) os)
depth_turn n i o os lt is = ap (depth_from n) (here_first i o os lt is)

pub depth_is : (n i : ℕ) (os : List Object) → length os ≤ i → depth_from n (drop i os) ≡ n
depth_is n i os le = ap (depth_from n) (none_left i os le)

-- and of the extent
pub extent_turn : (n i : ℕ) (o : Object) (os : List Object) → i < length os → o ≡ get_or os i o →
    extent_from n (drop i os) ≡ extent_from (max n (o.offset + o.size)) (drop (i + 1) os)
extent_turn n i o os lt is = ap (extent_from n) (here_first i o os lt is)

pub extent_is : (n i : ℕ) (os : List Object) → length os ≤ i → extent_from n (drop i os) ≡ n
extent_is n i os le = ap (extent_from n) (none_left i os le)
