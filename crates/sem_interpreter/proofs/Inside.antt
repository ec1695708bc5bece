-- In a sound function control stays inside: each edge leads to an item, or to the end of a block that isn't the last.
use Rattle.std.proofs.Common.{◌≡◌, ℕ, zero, suc, ◌+◌, ◌<◌, List, [], ◌∷◌, length, Contains, Bool, cond, refl, sym, ap, ◌∙◌, subst, inl, inr, drop, arith}
use Rattle.std.specs.Prelude.{All, Result, Ok, Err, IfOk, OnErr}
use Rattle.std.specs.declared.alloc.AllocError.{AllocError}
use Rattle.std.proofs.lemmas.Bool.{cases_eq, eq-eqb, ne_eqb}
use Rattle.std.proofs.lemmas.List.Elements.{All-drop}
use Rattle.rv64_instr.specs.Row.{Row, Branches, Jumps, Returns, Unfit, row_of}
use Rattle.mir_func.specs.declared.position.Pos.{Pos}
use Rattle.mir_func.specs.declared.block.Block.{Block}
use Rattle.mir_func.specs.declared.item.Item.{Item}
use Rattle.mir_func.specs.declared.item.ItemKind.{ItemKind}
use Rattle.mir_func.specs.declared.item.ItemKind.TheVariants.{Code, Mark, Phi}
use Rattle.mir_func.specs.Function.{Function}
use Rattle.mir_func.specs.Sound.{IsSound, TargetIn, TargetsIn, AllItems, ids_of, LastCloses, Closes}
use Rattle.mir_func.specs.declared.exit.Exit.{Exit}
use Rattle.mir_func.specs.declared.exit.Exit.TheVariants.{Onward}
use Rattle.mir_func.specs.Exits.{Leaves, row_exit, exit_of}
use Rattle.mir_func.specs.Graph.{Here, EndOfBlock, Outside, below, block_start, fetch_in, front, from_block, FetchEdge, KindEdge, RowEdge}
use Rattle.sem_mir.proofs.Places.{contains_head, contains_tail}
use Rattle.sem_interpreter.specs.declared.state.SourceStep.{SourceStep}
use Rattle.sem_interpreter.specs.declared.state.SourceStep.TheVariants.{Went, Returned, Faulted, Waits}
use Rattle.sem_interpreter.specs.StandsFor.{Concrete, IsPosition}
use Rattle.sem_interpreter.specs.Steps.{GoesAlong}

-- ---- a block's start
-- in blocks whose last one closes, something stands at the start
pub start_inside : (b : Block) (bs : List Block) → LastCloses (b ∷ bs) → fetch_in (b ∷ bs) 0 ≡ Outside → ⊥
start_inside b bs closes = inside b.items bs (λ e. subst (λ (cs : List Block). LastCloses (b ∷ cs)) e closes)
  where
    inside : (is : List Item) (cs : List Block) → (cs ≡ [] → Closes is) → front is b.source_end cs ≡ Outside → ⊥
    inside (i ∷ is) cs h e = (let no : Here i ≡ Outside = e in cc)
    inside [] (c ∷ cs) h e = (let no : EndOfBlock b.source_end c.id ≡ Outside = e in cc)
    inside [] [] h e = h refl

pub block_inside : (blocks : List Block) (n : ℕ) → LastCloses blocks → Contains (ids_of blocks) n → IsPosition blocks (block_start n)
block_inside [] n closes at = absurd closes
block_inside (b ∷ bs) n closes at = λ out.
    elim (cases_eq b.id n) [
      | inl e ↦ start_inside b bs closes (sym (ap (λ (t : Bool). fetch_in (cond t (b ∷ bs) (from_block bs n)) 0) (eq-eqb b.id n e)) ∙ out)
      | inr ne ↦ later bs closes at ne (sym (ap (λ (t : Bool). fetch_in (cond t (b ∷ bs) (from_block bs n)) 0) (ne_eqb b.id n ne)) ∙ out)
          (λ more k. block_inside bs n more k)
    ]
  where
    later : (cs : List Block) → LastCloses (b ∷ cs) → Contains (b.id ∷ ids_of cs) n → (b.id ≡ n → ⊥) → fetch_in (from_block cs n) 0 ≡ Outside →
        (LastCloses cs → Contains (ids_of cs) n → IsPosition cs (block_start n)) → ⊥
    later cs closes (zero, lt, e) ne out more = ne e
    later [] closes (suc k, lt, e) ne out more = absurd (omega (arith, lt))
    later (c ∷ cs) closes (suc k, lt, e) ne out more = more closes (k, omega (arith, lt), e) out

pub drop_closes : (blocks : List Block) (i : ℕ) → LastCloses blocks → i < length blocks → LastCloses (drop i blocks)
drop_closes [] i closes lt = absurd closes
drop_closes (b ∷ bs) zero closes lt = closes
drop_closes (b ∷ []) (suc i) closes lt = absurd (omega arith)
drop_closes (b ∷ c ∷ cs) (suc i) closes lt = drop_closes (c ∷ cs) i closes (omega arith)

-- ---- below an item
-- an item of a block that closes, with nothing below it, leaves for good
closes_last : (items : List Item) (n k : ℕ) (it : Item) → Closes items → front (drop n items) k [] ≡ Here it → front (drop (suc n) items) k [] ≡ Outside →
    Leaves (exit_of it.kind)
closes_last [] n k it closes here out = absurd closes
closes_last (x ∷ []) zero k it closes here out =
    let h : Here x ≡ Here it = here in
    let same : x ≡ it = cc in
    subst (λ (y : Item). Leaves (exit_of y.kind)) same closes
closes_last (x ∷ []) (suc zero) k it closes here out = (let no : Outside ≡ Here it = here in cc)
closes_last (x ∷ []) (suc (suc n)) k it closes here out = (let no : Outside ≡ Here it = here in cc)
closes_last (x ∷ y ∷ rest) zero k it closes here out = (let no : Here y ≡ Outside = out in cc)
closes_last (x ∷ y ∷ rest) (suc n) k it closes here out = closes_last (y ∷ rest) n k it closes here out

pub below_inside : (b : Block) (bs : List Block) (n : ℕ) (it : Item) → LastCloses (b ∷ bs) → fetch_in (b ∷ bs) n ≡ Here it → (Leaves (exit_of it.kind) → ⊥) →
    fetch_in (b ∷ bs) (n + 1) ≡ Outside → ⊥
below_inside b [] n it closes here stays out =
    let next : n + 1 ≡ suc n = omega arith in
    stays (closes_last b.items n b.source_end it closes here (sym (ap (λ (x : ℕ). fetch_in (b ∷ []) x) next) ∙ out))
below_inside b (c ∷ cs) n it closes here stays out = more (drop (n + 1) b.items) out
  where
    more : (items : List Item) → front items b.source_end (c ∷ cs) ≡ Outside → ⊥
    more [] out = (let no : EndOfBlock b.source_end c.id ≡ Outside = out in cc)
    more (x ∷ xs) out = (let no : Here x ≡ Outside = out in cc)

-- ---- edges
-- an edge leads to the start of a block that is there, or below code that doesn't leave for good
pub data LeadsOn (ids : List ℕ) (e : Exit) (p q : Pos) : Type 0 where
  to_block : (n : ℕ) → Contains ids n → q ≡ block_start n → LeadsOn ids e p q
  to_below : q ≡ below p → (Leaves e → ⊥) → LeadsOn ids e p q

onward : (ids : List ℕ) (p q : Pos) → q ≡ below p → LeadsOn ids Onward p q
onward ids p q e = to_below e (λ z. z)

row_leads : (ids : List ℕ) (r : Row) (p q : Pos) → TargetIn ids r → RowEdge (λ n. n) r p q → LeadsOn ids (row_exit r) p q
row_leads ids (Branches op a b t) p q at (inl e) = to_block t at e
row_leads ids (Branches op a b t) p q at (inr e) = to_below e (λ z. z)
row_leads ids (Jumps t) p q at e = to_block t at e
row_leads ids (Returns rs) p q at e = absurd e
row_leads ids Unfit p q at e = absurd e
row_leads ids _ p q at e = onward ids p q e

kind_leads : (ids : List ℕ) (k : ItemKind) (p q : Pos) → TargetsIn ids k → KindEdge (λ n. n) k p q → LeadsOn ids (exit_of k) p q
kind_leads ids (Code i k) p q at e = row_leads ids (row_of i) p q at e
kind_leads ids (Mark v m) p q at e = onward ids p q e
kind_leads ids (Phi place k) p q at e = onward ids p q e

-- what holds of each item holds of the one that stands here
item_all : (P : Item → Type 0) (items : List Item) (n k : ℕ) (bs : List Block) (it : Item) → All P items → front (drop n items) k bs ≡ Here it → P it
item_all P items n k bs it all here = at_head (drop n items) (All-drop P n items all) here
  where
    at_head : (xs : List Item) → All P xs → front xs k bs ≡ Here it → P it
    at_head (x ∷ xs) all here =
        let h : Here x ≡ Here it = here in
        let same : x ≡ it = cc in
        subst P same (all 0 x (omega arith))
    at_head [] all here = elim bs as (λ z. front [] k z ≡ Here it →
        P it) [ [] ↦ (λ e. (let no : Outside ≡ Here it = e in cc)) | b ∷ rest ↦ (λ e. (let no : EndOfBlock k b.id ≡ Here it = e in cc)) ] here

-- ---- the whole function
-- the block after a block that is there is there too
next_there : (blocks : List Block) (n : ℕ) (b c : Block) (cs : List Block) → from_block blocks n ≡ b ∷ c ∷ cs → Contains (ids_of blocks) c.id
next_there [] n b c cs e = (let no : ◌≡◌ {A = List Block} [] (b ∷ c ∷ cs) = e in cc)
next_there (x ∷ xs) n b c cs e =
    elim (cases_eq x.id n) [
      | inl h ↦
          let all : x ∷ xs ≡ b ∷ c ∷ cs = sym (ap (λ (t : Bool). cond t (x ∷ xs) (from_block xs n)) (eq-eqb x.id n h)) ∙ e in
          let rest : xs ≡ c ∷ cs = cc in
          contains_tail x.id c.id (ids_of xs) (subst (λ (ys : List Block). Contains (ids_of ys) c.id) (sym rest) (contains_head c.id (ids_of cs)))
      | inr ne ↦ contains_tail x.id c.id (ids_of xs)
          (next_there xs n b c cs (sym (ap (λ (t : Bool). cond t (x ∷ xs) (from_block xs n)) (ne_eqb x.id n ne)) ∙ e))
    ]

edge_inside : (f : Function) → IsSound f → (p q : Pos) (blocks : List Block) → from_block f.blocks p.block ≡ blocks → LastCloses blocks →
    AllItems (λ i. TargetsIn (ids_of f.blocks) i.kind) blocks →
    FetchEdge (λ n. n) (fetch_in blocks p.item) p q → IsPosition f.blocks q
edge_inside f sound p q [] from closes targets edge = absurd closes
edge_inside f sound p q (b ∷ bs) from closes targets edge = by_items (drop p.item b.items) bs from closes refl edge
  where
    at_leads : (x : Item) (cs : List Block) → from_block f.blocks p.block ≡ b ∷ cs → LastCloses (b ∷ cs) → fetch_in (b ∷ cs) p.item ≡ Here x →
        LeadsOn (ids_of f.blocks) (exit_of x.kind) p q → IsPosition f.blocks q
    at_leads x cs from closes here (to_block n there same) = subst (λ (z : Pos). IsPosition f.blocks z) (sym same) (block_inside f.blocks n sound.last there)
    at_leads x cs from closes here (to_below same stays) =
        subst (λ (z : Pos). IsPosition f.blocks z) (sym same)
        (λ out. below_inside b cs p.item x closes here stays (sym (ap (λ zs. fetch_in zs (p.item + 1)) from) ∙ out))

    by_items : (xs : List Item) (cs : List Block) → from_block f.blocks p.block ≡ b ∷ cs → LastCloses (b ∷ cs) → drop p.item b.items ≡ xs →
        FetchEdge (λ n. n) (front xs b.source_end cs) p q → IsPosition f.blocks q
    by_items (x ∷ xs) cs from closes is edge =
        let here : fetch_in (b ∷ cs) p.item ≡ Here x = ap (λ zs. front zs b.source_end cs) is in
        let target = item_all (λ i. TargetsIn (ids_of f.blocks) i.kind) b.items p.item b.source_end cs x (targets 0 b (omega arith)) here in
        at_leads x cs from closes here (kind_leads (ids_of f.blocks) x.kind p q target edge)
    by_items [] [] from closes is edge = absurd edge
    by_items [] (c ∷ cs) from closes is edge =
        subst (λ (z : Pos). IsPosition f.blocks z) (sym edge) (block_inside f.blocks c.id sound.last (next_there f.blocks p.block b c cs from))

-- a step from a position of the function leads to one
stays_inside : (f : Function) → IsSound f → (p q : Pos) (i : ℕ) (r : SourceStep) → i < length f.blocks → from_block f.blocks p.block ≡ drop i f.blocks →
    IsPosition f.blocks p → GoesAlong (fetch_in (drop i f.blocks) p.item) r p q → IsPosition f.blocks q
stays_inside f sound p q i Went lt from inside along = edge_inside f sound p q (drop i f.blocks) from (drop_closes f.blocks i sound.last lt)
    (All-drop (λ b. All (λ x. TargetsIn (ids_of f.blocks) x.kind) b.items) i f.blocks sound.targets) along
stays_inside f sound p q i Returned lt from inside along = subst (λ (z : Pos). IsPosition f.blocks z) (sym along) inside
stays_inside f sound p q i Faulted lt from inside along = subst (λ (z : Pos). IsPosition f.blocks z) (sym along) inside
stays_inside f sound p q i Waits lt from inside along = subst (λ (z : Pos). IsPosition f.blocks z) (sym along) inside

pub stays_inside_ok : (f : Function) → IsSound f → (old new : Concrete) (i : ℕ) → i < length f.blocks → from_block f.blocks old.pos.block ≡ drop i f.blocks →
    IsPosition f.blocks old.pos → (r : Result SourceStep AllocError) →
    IfOk r (λ o. GoesAlong (fetch_in (drop i f.blocks) old.pos.item) o old.pos new.pos) → OnErr r (new ≡ old) → IsPosition f.blocks new.pos
stays_inside_ok f sound old new i lt from inside (Ok o) along same = stays_inside f sound old.pos new.pos i o lt from inside along
stays_inside_ok f sound old new i lt from inside (Err x) along same = subst (λ (c : Concrete). IsPosition f.blocks c.pos) (sym same) inside
