-- A walk up the items of a block.
use Rattle.std.proofs.Common.{◌≡◌, ℕ, zero, suc, ◌+◌, ◌≤◌, Bool, false, List, [], ◌∷◌, ◌++◌, length, Option, None, refl, sym, ap, ◌∙◌, arith, append_assoc}
use Rattle.std.specs.Prelude.{slice_get}
use Rattle.std.proofs.lemmas.List.{append-nil}
use Rattle.pass_liveness.specs.rv64_instr.declared.place.Place.{Place}
use Rattle.pass_liveness.specs.mir_func.declared.block.Block.{Block}
use Rattle.pass_liveness.specs.mir_func.declared.item.Item.{Item}
use Rattle.pass_liveness.specs.mir_func.Exits.{exit_of}
use Rattle.pass_liveness.specs.mir_func.Sound.{ids_of}
use Rattle.pass_liveness.specs.Liveness.{items_at}
use Rattle.pass_liveness.specs.Walk.{live_before, live_across, live_past}
use Rattle.place_liveness.specs.Alone.{is_target, live_alone, live_by}

-- the test is that of the items below those that are left
pub record Walked (next : Option ℕ) (x : Place) (target : Option ℕ) (items above : List Item) (live : Bool) : Type 0 where
  pub below : List Item
  pub all : items ≡ above ++ below
  pub is : live ≡ live_alone below next x target

pub walked_begins : (next : Option ℕ) (x : Place) (target : Option ℕ) (items : List Item) (live : Bool) →
    live ≡ live_past (λ n y. is_target target n) next x → Walked next x target items items live
walked_begins next x target items live e = record { below = []; all = sym (append-nil items); is = e }

pub walked_on : {next : Option ℕ} {x : Place} {target : Option ℕ} {items above : List Item} {live : Bool} → Walked next x target items above live →
    (rest : List Item) (item : Item) → above ≡ rest ++ item ∷ [] → (across up : Bool) →
    across ≡ live_across (λ n y. is_target target n) (exit_of item.kind) live x → up ≡ live_before item.kind across x → Walked next x target items rest up
walked_on {next} {x} {target} {items} {above} {live} w rest item e across up over before = record {
  below = item ∷ w.below;
  all = w.all ∙ (ap (λ (xs : List Item). xs ++ w.below) e ∙ append_assoc rest (item ∷ []) w.below);
  is = before ∙ ap (λ (b : Bool). live_before item.kind b x)
      (over ∙ ap (λ (b : Bool). live_across (λ n y. is_target target n) (exit_of item.kind) b x) w.is);
}

pub walked_ends : {next : Option ℕ} {x : Place} {target : Option ℕ} {items above : List Item} {live : Bool} → Walked next x target items above live →
    above ≡ [] → live ≡ live_alone items next x target
walked_ends {next} {x} {target} {items} {above} {live} w e =
    w.is ∙ ap (λ (is : List Item). live_alone is next x target) (sym (w.all ∙ ap (λ (xs : List Item). xs ++ w.below) e))

-- there is no block at the index
items_past : (blocks : List Block) (b : ℕ) → length blocks ≤ b → items_at blocks b ≡ []
items_past [] b past = refl
items_past (c ∷ cs) zero past = absurd (omega arith)
items_past (c ∷ cs) (suc b) past = items_past cs b (omega arith)

id_past : (blocks : List Block) (b : ℕ) → length blocks ≤ b → slice_get (ids_of blocks) b ≡ None
id_past [] zero past = refl
id_past [] (suc b) past = refl
id_past (c ∷ cs) zero past = absurd (omega arith)
id_past (c ∷ cs) (suc b) past = id_past cs b (omega arith)

pub no_block : (blocks : List Block) (x : Place) (b : ℕ) (target : Option ℕ) → length blocks ≤ b → live_by blocks x b target ≡ false
no_block blocks x b target past =
    ap (λ (is : List Item). live_alone is (slice_get (ids_of blocks) (b + 1)) x target) (items_past blocks b past)
    ∙ ap (λ (o : Option ℕ). live_alone [] o x target) (id_past blocks (b + 1) (omega arith))
