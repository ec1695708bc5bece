-- The walk over the items of a block: classes that stand for where tokens come from do so past one more item. What the item
-- passes on had a class that stands for its token; what it makes gets the class of the item's new token for its register.
use Rattle.std.proofs.Common.{◌≡◌, ℕ, suc, ◌+◌, ◌-◌, ◌*◌, ◌/◌, ◌%◌, ◌<◌, ◌≤◌, List, [], ◌∷◌, ◌++◌, map, length, refl, sym, ap, ◌∙◌, subst, arith}
use Rattle.std.proofs.Common.{length-append, take, get_or}
use Rattle.std.specs.Prelude.{Option, Some, None, Bool, true, false, cond, nat_lt}
use Rattle.std.proofs.lemmas.Nat.{div-mul-add, mod-mul-add}
use Rattle.std.proofs.lemmas.List.{take_more, length-take-le}
use Rattle.std.proofs.lemmas.Option.{slice_get_read}
use Rattle.mir_func.specs.declared.debug_substitution.OperandPair.{OperandPair}
use Rattle.mir_func.specs.declared.item.Item.{Item}
use Rattle.sem_mir.specs.ValueId.{Made, Tokens, after_item}
use Rattle.sem_value_ids.specs.Pullback as path
use Rattle.sem_value_ids.specs.Pullback.{InRegister, token_of, token_back, Back, back, after_items}
use Rattle.sem_value_ids.proofs.Backwards.{tokens_pull_back}
use Rattle.value_proof.specs.Classes.{Classes, IsKnown, KnowsItem, class_back, pairs_of, known_past}
use Rattle.value_proof.proofs.Pairs.{past_push}
use Rattle.value_proof.proofs.Passing.{Knows, known_past_item}
use Rattle.value_solver.specs.declared.tracked.Tracked.{Tracked}
use Rattle.value_solver.specs.Entry.{thing}
use Rattle.value_solver.specs.declared.flow.Source.TheVariants.{Was, New}
use Rattle.value_solver.specs.Flows.{told}
use Rattle.value_tracker.specs.declared.location_tracker.LocationTracker.{LocationTracker}
use Rattle.value_tracker.specs.LocationTracker.{Holds, Passes}
use Rattle.mir_func.specs.Resolve.{resolve}
use Rattle.value_live_ins.specs.declared.changes.Tracking.{Tracking}
use Rattle.value_live_ins.specs.Gathering.{KnowsItems}
use Rattle.value_live_ins.specs.Walking.{new_of, decoded, ClassesTell, Walked}

-- ---- what classes stand for

lt_is : (a b : ℕ) → a < b → nat_lt a b ≡ true
lt_is a b h = grind arith

pub decoded_own : (n i : ℕ) → i < n → decoded n (suc i) ≡ Was i
decoded_own n i h = ap (λ (z : Bool). cond z (Was i) (new_of (i - n))) (lt_is i n h)

not_lt : (a b : ℕ) → b ≤ a → nat_lt a b ≡ false
not_lt a b h = grind arith

decoded_new : (n k r : ℕ) → r < 32 → decoded n (n + 1 + 32 * k + r) ≡ New k r
decoded_new n k r h =
    let next : n + 1 + 32 * k + r ≡ suc (n + 32 * k + r) = omega arith in
    let less : n + 32 * k + r - n ≡ 32 * k + r = omega arith in
    let turned : 32 * k + r ≡ k * 32 + r = omega arith in
    let div : (32 * k + r) / 32 ≡ k = ap (λ (z : ℕ). z / 32) turned ∙ div-mul-add k 32 r h in
    let rem : (32 * k + r) % 32 ≡ r = ap (λ (z : ℕ). z % 32) turned ∙ mod-mul-add k 32 r h in
    ap (decoded n) next
    ∙ ap (λ (z : Bool). cond z (Was (n + 32 * k + r)) (new_of (n + 32 * k + r - n))) (not_lt (n + 32 * k + r) n (omega arith))
    ∙ ap new_of less ∙ (λ i. New (div i) (rem i))

-- ---- one more item

pub after_push : (resolve : OperandPair → Option OperandPair) (n : ℕ) (items : List Item) (item : Item) (t : Tokens) →
    after_items resolve n (items ++ item ∷ []) t ≡ after_item resolve (n + length items) item.kind (after_items resolve n items t)
after_push resolve n [] item t = let e : n ≡ n + 0 = omega arith in ap (λ (z : ℕ). after_item resolve z item.kind t) e
after_push resolve n (x ∷ xs) item t =
    let e : suc n + length xs ≡ n + suc (length xs) = omega arith in
    after_push resolve (suc n) xs item (after_item resolve n x.kind t)
    ∙ ap (λ (z : ℕ). after_item resolve z item.kind (after_items resolve (suc n) xs (after_item resolve n x.kind t))) e

module _ (resolve : OperandPair → Option OperandPair) (things : List Tracked) (items : List Item) (item : Item) (class : Classes)
    (tell : ClassesTell resolve things items class) (knows : KnowsItem (known_past (map thing things) items) resolve item.kind) where
  abbrev pub base : ℕ
  base = length things + 1 + 32 * length items

  abbrev pub fresh : ℕ → ℕ
  fresh r = base + r

  abbrev known : List path.Tracked
  known = known_past (map thing things) items

  known_before : (x : path.Tracked) → IsKnown (known_past (map thing things) (items ++ item ∷ [])) x → IsKnown (pairs_of item.kind ++ known) x
  known_before x k = subst (λ (z : List path.Tracked). IsKnown z x) (past_push (map thing things) items item) k

  abbrev pub class_past : Classes
  class_past x = class_back class fresh (back resolve 0 item.kind x)

  told_back : (n : ℕ) (t : Tokens) → token_of (InRegister 2) t ≡ None → (b : Back) → Knows known b →
      token_back (n + length items) (after_items resolve n items t) b ≡ told things n t (decoded (length things) (class_back class fresh b))
  told_back n t bare (path.Was y) k = tell.each n t bare y k
  told_back n t bare (path.New i r) k =
      let e : n + length items + i ≡ n + length items = omega (arith, k.0) in
      ap (λ (z : ℕ). Some (Made z r)) e
      ∙ ap (told things n t) (sym (decoded_new (length things) (length items) r k.1))
  told_back n t bare path.Nameless k = refl

  below_back : (b : Back) → Knows known b → class_back class fresh b < base + 32
  below_back (path.Was y) k = let h = tell.below y k in omega (arith, h)
  below_back (path.New i r) k = let h = k.1 in omega (arith, h)
  below_back path.Nameless k = omega arith

  pub tells_on : ClassesTell resolve things (items ++ item ∷ []) class_past
  tells_on = record {
    each = λ n t bare x k.
        let u = after_items resolve n items t in
        ap (token_of x) (after_push resolve n items item t)
        ∙ tokens_pull_back resolve (n + length items) (item ∷ []) u x
        ∙ told_back n t bare (back resolve 0 item.kind x) (known_past_item known resolve item.kind x knows (known_before x k));
    below = λ x k.
        let h = below_back (back resolve 0 item.kind x) (known_past_item known resolve item.kind x knows (known_before x k)) in
        let long : length (items ++ item ∷ []) ≡ length items + 1 = length-append items (item ∷ []) in
        omega (arith, h, long);
  }

-- ---- the walk itself

module _ (t : Tracking) (items : List Item) (k : ℕ) (item : Item) (h after : LocationTracker) (next : ℕ) (is : next ≡ length t.things.now + 1 + 32 * k)
    (less : k < length items) (at : item ≡ get_or items k item) (knows : KnowsItem (known_past (map thing t.things.now) (take k items)) (resolve t.subs.now) item.kind)
    (passes : Passes t.variables.now t.index.now t.settled.now (resolve t.subs.now) (record h { next = next }) after item.kind) where
  count : length (take k items) ≡ k
  count = length-take-le k items (omega (arith, less))

  next_is : next ≡ length t.things.now + 1 + 32 * length (take k items)
  next_is = is ∙ ap (λ (z : ℕ). length t.things.now + 1 + 32 * z) (sym count)

  taken : take (k + 1) items ≡ take k items ++ item ∷ []
  taken = take_more items k item less ∙ ap (λ (z : Item). take k items ++ z ∷ []) (sym at)

  abbrev known_here : List path.Tracked
  known_here = known_past (map thing t.things.now) (take k items)

  known_next : known_past (map thing t.things.now) (take (k + 1) items) ≡ pairs_of item.kind ++ known_here
  known_next = ap (known_past (map thing t.things.now)) taken ∙ past_push (map thing t.things.now) (take k items) item

  pub walked_on : Walked t (take k items) h → Walked t (take (k + 1) items) after
  walked_on w =
      let here : Holds t.variables.now known_here t.index.now t.settled.now (record h { next = next }) w.class = record {
        count = w.holds.count;
        registers = w.holds.registers;
        slots = w.holds.slots;
        offsets = w.holds.offsets;
        slots_known = w.holds.slots_known;
        pairs = w.holds.pairs;
        parts = w.holds.parts;
        numbers = w.holds.numbers;
        below = λ x kx. let b = w.tells.below x kx in omega (arith, b, next_is);
        zero = w.holds.zero;
        pointer = w.holds.pointer;
      } in
      let past = passes known_here w.class here knows in
      let class = class_past (resolve t.subs.now) t.things.now (take k items) item w.class w.tells knows in
      record {
        class = class;
        holds = subst (λ (zs : List path.Tracked). Holds t.variables.now zs t.index.now t.settled.now after class) (sym known_next)
            (subst (λ (n : ℕ). Holds t.variables.now (pairs_of item.kind ++ known_here) t.index.now t.settled.now after
            (λ x. class_back w.class (λ r. n + r) (back (resolve t.subs.now) 0 item.kind x))) next_is past);
        tells = subst (λ (zs : List Item). ClassesTell (resolve t.subs.now) t.things.now zs
            (class_past (resolve t.subs.now) t.things.now (take k items) item w.class w.tells knows)) (sym taken)
            (tells_on (resolve t.subs.now) t.things.now (take k items) item w.class w.tells knows);
      }

pub known_item : (t : Tracking) (items : List Item) (k : ℕ) (item : Item) → k < length items → item ≡ get_or items k item →
    KnowsItems (map thing t.things.now) (resolve t.subs.now) items →
    KnowsItem (known_past (map thing t.things.now) (take k items)) (resolve t.subs.now) item.kind
known_item t items k item lt at all = all k item (slice_get_read items (length items) k item refl lt at)
