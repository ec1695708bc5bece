-- Functions with the same code: where dead code is, and how much code there is.
use Rattle.std.proofs.Common.{◌≡◌, ℕ, ◌+◌, List, [], ◌∷◌, ◌++◌, length, count_by, Bool, cond, ◌||◌}
use Rattle.std.proofs.Common.{refl, sym, ap, ◌∙◌, arith, length-append}
use Rattle.std.specs.List.{list_any}
use Rattle.std.proofs.lemmas.List.Sums.{sum_by-cons, sum_by-append}
use Rattle.rv64_instr.specs.Row.{row_of}
use Rattle.mir_func.specs.declared.position.Origin.{Origin}
use Rattle.mir_func.specs.declared.location.Loc.{Loc}
use Rattle.mir_func.specs.declared.block.Block.{Block}
use Rattle.mir_func.specs.declared.item.Item.{Item}
use Rattle.mir_func.specs.declared.item.ItemKind.{ItemKind}
use Rattle.mir_func.specs.declared.item.ItemKind.TheVariants.{Code, Mark, Phi}
use Rattle.mir_func.specs.Sound.{items_of}
use Rattle.mir_func.specs.Strip.{stripped_items, stripped_blocks}
use Rattle.sem_mir.specs.Align.{is_code}
use Rattle.pass_trait.specs.Rule.{item}
use Rattle.dce_salvage_proof.specs.dce_rule.Dead.{Places, Ends, is_dead_code, needed_before, needed_at}
use Rattle.dce_sweep.specs.dce_analysis.Judge.{verdicts}
use Rattle.dce_sweep.specs.Round.{has_dead}

-- ---- where dead code is

abbrev some : List Bool → Bool
some vs = list_any (λ d. d) vs

record AsStripped (xs : List Item) (needed : Places) : Type 0 where
  same : needed_at (stripped_items xs) needed ≡ needed_at xs needed
  dead : some (verdicts (stripped_items xs) needed) ≡ some (verdicts xs needed)

as_stripped : (xs : List Item) (needed : Places) → AsStripped xs needed
as_stripped [] needed = record { same = refl; dead = refl }
as_stripped (x ∷ xs) needed = by_kind x.kind x.origin x.loc (as_stripped xs needed) where
  by_kind : (k : ItemKind) (o : Origin) (l : Loc) → AsStripped xs needed → AsStripped (item k o l ∷ xs) needed
  by_kind (Code i n) o l h = record {
    same = ap (needed_before (Code i n)) h.same;
    dead = (λ j. is_dead_code i (h.same j) || h.dead j);
  }
  by_kind (Mark v m) o l h = record { same = h.same; dead = h.dead }
  by_kind (Phi p n) o l h = record { same = h.same; dead = h.dead }

dead_stripped : (ends : Ends) (bs : List Block) → has_dead ends (stripped_blocks bs) ≡ has_dead ends bs
dead_stripped ends [] = refl
dead_stripped ends (b ∷ bs) =
    let here = (as_stripped b.items (ends b.id)).dead in
    let rest = dead_stripped ends bs in
    λ i. here i || rest i

pub dead_same : (ends : Ends) (bs cs : List Block) → stripped_blocks cs ≡ stripped_blocks bs → has_dead ends cs ≡ has_dead ends bs
dead_same ends bs cs e = sym (dead_stripped ends cs) ∙ ap (has_dead ends) e ∙ dead_stripped ends bs

-- ---- how much code there is

abbrev code_in : List Item → ℕ
code_in xs = count_by (λ (i : Item). is_code i.kind) xs

code_length : (xs : List Item) → code_in xs ≡ length (stripped_items xs)
code_length [] = refl
code_length (x ∷ xs) = by_kind x.kind x.origin x.loc (code_length xs) where
  by_kind : (k : ItemKind) (o : Origin) (l : Loc) → code_in xs ≡ length (stripped_items xs) →
      code_in (item k o l ∷ xs) ≡ length (stripped_items (item k o l ∷ xs))
  by_kind k o l h = by_case k (sum_by-cons (λ (y : Item). cond (is_code y.kind) 1 0) (item k o l) xs) where
    by_case : (k : ItemKind) → code_in (item k o l ∷ xs) ≡ cond (is_code k) 1 0 + code_in xs → code_in (item k o l ∷ xs) ≡
        length (stripped_items (item k o l ∷ xs))
    by_case (Code i n) e = omega (arith, e, h)
    by_case (Mark v m) e = omega (arith, e, h)
    by_case (Phi p n) e = omega (arith, e, h)

all_length : (bs : List Block) → code_in (items_of bs) ≡ length (items_of (stripped_blocks bs))
all_length [] = refl
all_length (b ∷ bs) =
    let a : code_in (b.items ++ items_of bs) ≡ code_in b.items + code_in (items_of bs) =
    sum_by-append (λ (y : Item). cond (is_code y.kind) 1 0) b.items (items_of bs) in
    let c = code_length b.items in
    let d = all_length bs in
    let e : length (stripped_items b.items ++ items_of (stripped_blocks bs)) ≡ length (stripped_items b.items) + length (items_of (stripped_blocks bs)) =
    length-append (stripped_items b.items) (items_of (stripped_blocks bs)) in
    omega (arith, a, c, d, e)

pub code_same : (bs cs : List Block) → stripped_blocks cs ≡ stripped_blocks bs → code_in (items_of cs) ≡ code_in (items_of bs)
code_same bs cs e = all_length cs ∙ ap (λ (ds : List Block). length (items_of ds)) e ∙ sym (all_length bs)
