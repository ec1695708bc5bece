-- A walk up the items of a block.
use Rattle.std.proofs.Common.{◌≡◌, ℕ, zero, suc, ◌<◌, ◌≤◌, ◌||◌, Bool, false, List, [], ◌∷◌, ◌++◌, length, get_or, Option, Some, None, refl, ap, sym}
use Rattle.std.proofs.Common.{◌∙◌, append_assoc, arith, subst}
use Rattle.std.specs.Prelude.{All}
use Rattle.rv64_instr.specs.declared.place.Place.{Place}
use Rattle.mir_func.specs.declared.exit.Exit.{Exit}
use Rattle.mir_func.specs.declared.exit.Exit.TheVariants.{Always, Final}
use Rattle.mir_func.specs.declared.item.Item.{Item}
use Rattle.mir_func.specs.Exits.{exit_of}
use Rattle.pass_liveness.specs.Sets.{has}
use Rattle.pass_liveness.specs.Walk.{live_before, live_across, live_from, live_past}
use Rattle.pass_liveness.specs.Index.{index_in}
use Rattle.pass_liveness.specs.Liveness.{has_at_start, set_at}
use Rattle.pass_liveness.proofs.Places.{has_nothing, or_false}

-- the set is that of the items below those that are left
pub record Walking (slots ids : List ℕ) (starts : List (List ℕ)) (next : Option ℕ) (items above : List Item) (set : List ℕ) : Type 0 where
  pub below : List Item
  pub all : items ≡ above ++ below
  pub live : (x : Place) → has slots set x ≡ live_from (has_at_start slots ids starts) below next x

pub walk_begins : (slots ids : List ℕ) (starts : List (List ℕ)) (next : Option ℕ) (items : List Item) (set : List ℕ) →
    ((x : Place) → has slots set x ≡ live_past (has_at_start slots ids starts) next x) → Walking slots ids starts next items items set
walk_begins slots ids starts next items set h = record { below = []; all = end items; live = h } where
  end : (xs : List Item) → xs ≡ xs ++ []
  end [] = refl
  end (x ∷ xs) = ap (λ (r : List Item). x ∷ r) (end xs)

pub walk_goes_on : {slots ids : List ℕ} {starts : List (List ℕ)} {next : Option ℕ} {items above : List Item} {set : List ℕ} →
    Walking slots ids starts next items above set → (rest : List Item) (item : Item) → above ≡ rest ++ item ∷ [] → (across up : List ℕ) →
    ((x : Place) → has slots across x ≡ live_across (has_at_start slots ids starts) (exit_of item.kind) (has slots set x) x) →
    ((x : Place) → has slots up x ≡ live_before item.kind (has slots across x) x) → Walking slots ids starts next items rest up
walk_goes_on {slots} {ids} {starts} {next} {items} {above} {set} w rest item e across up over before = record {
  below = item ∷ w.below;
  all = w.all ∙ (ap (λ (xs : List Item). xs ++ w.below) e ∙ append_assoc rest (item ∷ []) w.below);
  live = λ x. before x ∙ ap (λ b. live_before item.kind b x)
      (over x ∙ ap (λ b. live_across (has_at_start slots ids starts) (exit_of item.kind) b x) (w.live x));
}

pub walk_ends : {slots ids : List ℕ} {starts : List (List ℕ)} {next : Option ℕ} {items above : List Item} {set : List ℕ} →
    Walking slots ids starts next items above set → above ≡ [] → (x : Place) →
    has slots set x ≡ live_from (has_at_start slots ids starts) items next x
walk_ends {slots} {ids} {starts} {next} {items} {above} {set} w e x =
    w.live x ∙ ap (λ (is : List Item). live_from (has_at_start slots ids starts) is next x) (sym (w.all ∙ ap (λ (xs : List Item). xs ++ w.below) e))

seam : (rest : List Item) (item : Item) (below : List Item) → (length rest < length ((rest ++ item ∷ []) ++ below))
    × (get_or ((rest ++ item ∷ []) ++ below) (length rest) item ≡ item)
seam [] item below = (omega arith, refl)
seam (y ∷ ys) item below = let r = seam ys item below in let l : length ys < length ((ys ++ item ∷ []) ++ below) = r.0 in (omega arith, r.1)

-- the last of the items that are left is one of all
pub item_among : (P : Item → Type 0) (items rest above : List Item) (item : Item) (below : List Item) → above ≡ rest ++ item ∷ [] → items ≡ above ++ below →
    All P items → P item
item_among P items rest above item below e f each =
    let s = seam rest item below in
    let same : items ≡ (rest ++ item ∷ []) ++ below = f ∙ ap (λ (xs : List Item). xs ++ below) e in
    let all = subst (λ (xs : List Item). All P xs) same each in
    subst P s.1 (all (length rest) item s.0)

-- ---- sets at the starts of blocks

-- the block of a number is there, and has a set
pub start_there : (slots ids : List ℕ) (starts : List (List ℕ)) (n index : ℕ) (x : Place) (set : List ℕ) → Some index ≡ index_in ids n → index < length starts →
    set ≡ get_or starts index set → has slots set x ≡ has_at_start slots ids starts n x
start_there slots ids starts n index x set found inside is =
    ap (λ (w : List ℕ). has slots w x) (is ∙ any starts index set [] inside) ∙ ap (λ (o : Option ℕ). has slots (set_at starts o) x) found where
      any : (xs : List (List ℕ)) (k : ℕ) (d e : List ℕ) → k < length xs → get_or xs k d ≡ get_or xs k e
      any [] k d e l = absurd (omega arith)
      any (y ∷ ys) zero d e l = refl
      any (y ∷ ys) (suc k) d e l = any ys k d e (omega arith)

-- the block of a number has no set
pub start_absent : (slots ids : List ℕ) (starts : List (List ℕ)) (n : ℕ) (x : Place) (o : Option ℕ) → o ≡ index_in ids n → set_at starts o ≡ [] →
    has_at_start slots ids starts n x ≡ false
start_absent slots ids starts n x o found none =
    ap (λ (i : Option ℕ). has slots (set_at starts i) x) (sym found) ∙ (ap (λ (w : List ℕ). has slots w x) none ∙ has_nothing slots x)

pub past_sets : (starts : List (List ℕ)) (index : ℕ) → length starts ≤ index → set_at starts (Some index) ≡ []
past_sets [] index l = refl
past_sets (w ∷ ws) zero l = absurd (omega arith)
past_sets (w ∷ ws) (suc index) l = past_sets ws index (omega arith)

pub unchanged : (a b : Bool) → b ≡ false → a ≡ (a || b)
unchanged a b e = sym (ap (λ (c : Bool). a || c) e ∙ or_false a)

-- ---- how control leaves an item

pub across_always : (starts : ℕ → Place → Bool) (e : Exit) (n : ℕ) (below : Bool) (x : Place) (set : Bool) → e ≡ Always n → set ≡ (false || starts n x) →
    set ≡ live_across starts e below x
across_always starts e n below x set is h = h ∙ sym (ap (λ (f : Exit). live_across starts f below x) is)

pub across_final : (starts : ℕ → Place → Bool) (e : Exit) (below : Bool) (x : Place) (set : Bool) → e ≡ Final → set ≡ false → set ≡ live_across starts e below x
across_final starts e below x set is h = h ∙ sym (ap (λ (f : Exit). live_across starts f below x) is)

pub past_some : (starts : ℕ → Place → Bool) (o : Option ℕ) (n : ℕ) (x : Place) (set : Bool) → o ≡ Some n → set ≡ (false || starts n x) → set ≡ live_past
    starts o x
past_some starts o n x set is h = h ∙ sym (ap (λ (p : Option ℕ). live_past starts p x) is)

pub past_none : (starts : ℕ → Place → Bool) (o : Option ℕ) (x : Place) (set : Bool) → o ≡ None → set ≡ false → set ≡ live_past starts o x
past_none starts o x set is h = h ∙ sym (ap (λ (p : Option ℕ). live_past starts p x) is)

pub false_or : (a b set : Bool) → a ≡ false → set ≡ (a || b) → set ≡ (false || b)
false_or a b set e h = h ∙ ap (λ (c : Bool). c || b) e
