-- Visits of blocks: what is found is stale, and where nothing grew all that is stale was found.
use Rattle.std.proofs.Common.{◌≡◌, ◌↔◌, ◌⊎◌, ℕ, zero, suc, ◌+◌, ◌<◌, ◌≤◌, ◌&&◌, ◌||◌, Bool, true, false}
use Rattle.std.proofs.Common.{List, [], ◌∷◌, length, drop, get_or, cond, nat_eq, Option, Some, None}
use Rattle.std.proofs.Common.{refl, sym, ap, ◌∙◌, inl, inr, arith, subst}
use Rattle.std.specs.Prelude.{slice_get, Contains, All, option_map}
use Rattle.std.proofs.lemmas.Bool.{and_parts, eq-eqb, ne_eqb, eqb-true}
use Rattle.rv64_instr.specs.declared.place.Place.{Place}
use Rattle.rv64_instr.specs.Row.{Row, Branches, Jumps, row_of}
use Rattle.mir_func.specs.declared.block.Block.{Block}
use Rattle.mir_func.specs.declared.debug_substitution.OperandPair.{OperandPair}
use Rattle.mir_func.specs.declared.item.Item.{Item}
use Rattle.mir_func.specs.declared.item.ItemKind.{ItemKind}
use Rattle.mir_func.specs.declared.item.ItemKind.TheVariants.{Code, Mark, Phi}
use Rattle.mir_func.specs.declared.position.Pos.{Pos}
use Rattle.mir_func.specs.Exits.{row_exit, exit_of}
use Rattle.mir_func.specs.Function.{Function}
use Rattle.mir_func.specs.Graph.{Program, Fetch, Here, Edge, FetchEdge, block_start, from_block, front, fetch_in, end_of, program_of}
use Rattle.mir_func.specs.Sound.{IsSound, LastCloses, AreApart, TargetIn, TargetsIn, ids_of}
use Rattle.mir_func.specs.Successors.{pos_in}
use Rattle.mir_func.proofs.Ways.{IsOut}
use Rattle.sem_mir.specs.InitialState.{first_of}
use Rattle.sem_mir.specs.Live.{Defines}
use Rattle.dce_stale.specs.pass_trait.Causes.{Comes, begins, goes_on as comes_on}
use Rattle.dataflow.specs.Fixpoint.{Visited}
use Rattle.pass_liveness.specs.Index.{index_in}
use Rattle.pass_liveness.specs.Sets.{has}
use Rattle.pass_liveness.specs.Liveness.{has_at_start, set_at, items_at}
use Rattle.pass_liveness.specs.Solving.{gap_of}
use Rattle.pass_liveness.proofs.Edges.{Stays, kind_edge}
use Rattle.pass_liveness.proofs.Blocks.{block_found, from_block-at, next_of-drop, index_at, items_at_is, all_below}
use Rattle.pass_liveness.proofs.Indices.{index_is}
use Rattle.pass_liveness.proofs.Paths.{next_of}
use Rattle.pass_liveness.proofs.Places.{has_nothing}
use Rattle.dce_stale.specs.Sets.{Handed}
use Rattle.dce_stale.proofs.Handing.{found_index}
use Rattle.dce_stale.proofs.Exact.{and_true, drop_at, drop_past, get_drop}
use Rattle.dce_stale.proofs.Visits.{at_of, id_among}
use Rattle.scan_stale.specs.Flow.{Places, is_unset, stale_past, stale_over, stale_at, goes_on, IsHanded, IsHandedDown, takes_at, IsStale}
use Rattle.scan_stale.specs.Sets.{start_in, started, HandsOn, IsClosed, AreFound, IsStaleIn, IsState, stale_in, stale_of, StaleSets, starts_of, AreStaleSets}
use Rattle.scan_stale.proofs.Exact.{down_goes, at_within, at_stale, handed_stale, handed_down_stale, stale_made, stale_on}

or_cases : (a b : Bool) → (a || b) ≡ true → (a ≡ true) ⊎ (b ≡ true)
or_cases true b e = inl refl
or_cases false b e = inr e

or_left : (a b : Bool) → a ≡ true → (a || b) ≡ true
or_left true b e = refl
or_left false b e = absurd cc

or_right : (a b : Bool) → b ≡ true → (a || b) ≡ true
or_right true b e = refl
or_right false b e = e

got_contains : (ns : List ℕ) (i n : ℕ) → slice_get ns i ≡ Some n → Contains ns n
got_contains [] i n e = absurd cc
got_contains (m ∷ ns) zero n e = let same : m ≡ n = cc in (zero, omega arith, same)
got_contains (m ∷ ns) (suc i) n e = (let w = got_contains ns i n e in let l = w.1 in (suc w.0, omega (arith, l), w.2))

got_inside : (xs : List Block) (i : ℕ) (c : Block) → slice_get xs i ≡ Some c → i < length xs
got_inside [] i c e = absurd cc
got_inside (y ∷ ys) zero c e = omega arith
got_inside (y ∷ ys) (suc i) c e = let l : i < length ys = got_inside ys i c e in omega arith

-- the first block alone has the number of the first one
first_alone : (blocks : List Block) (b : ℕ) (block : Block) → AreApart (ids_of blocks) → slice_get blocks b ≡ Some block →
    nat_eq block.id (first_of blocks) ≡ nat_eq b 0
first_alone [] b block apart e = absurd cc
first_alone (c ∷ cs) zero block apart e = let same : c ≡ block = cc in eq-eqb block.id c.id (ap (λ (x : Block). x.id) (sym same))
first_alone (c ∷ cs) (suc b) block apart e =
    ne_eqb block.id c.id (λ same. (let at : suc b ≡ 0 = apart (suc b) 0 c.id (id_among (c ∷ cs) (suc b) block e ∙ ap Some same) refl in omega (arith, at))) ∙
    sym (ne_eqb (suc b) 0 (λ at. (omega (arith, at))))

-- the block at an index starts with what its number has
pub starts_are : (f : Function) → IsSound f → (given : ℕ → Option ℕ) (w : StaleSets) → w.ids ≡ ids_of f.blocks → (b : ℕ) (block : Block) →
    slice_get f.blocks b ≡ Some block → start_in given b (has w.slots (get_or w.starts b [])) ≡ starts_of f given w block.id
starts_are f sound given w names b block at =
    let index : index_in w.ids block.id ≡ Some b =
    ap (λ (ns : List ℕ). index_in ns block.id) names ∙ index_at (ids_of f.blocks) b block.id sound.blocks_apart (id_among f.blocks b block at) in
    λ t y. (sym (first_alone f.blocks b block sound.blocks_apart at) t && is_unset given y) || has w.slots (set_at w.starts (sym index t)) y

-- what is stale at the start of a block, where what was found is
started_stale : (f : Function) (given : ℕ → Option ℕ) (resolve : OperandPair → Option OperandPair) (b : ℕ) (block : Block) →
    slice_get f.blocks b ≡ Some block → (found : Places) →
    ((y : Place) → found y ≡ true → IsStale (program_of false f.blocks resolve) (block_start (first_of f.blocks)) given y (block_start block.id)) →
    (y : Place) → start_in given b found y ≡ true →
    IsStale (program_of false f.blocks resolve) (block_start (first_of f.blocks)) given y (block_start block.id)
started_stale f given resolve b block at found stale y e =
    elim (or_cases (nat_eq b 0 && is_unset given y) (found y) e)
    as (λ _. IsStale (program_of false f.blocks resolve) (block_start (first_of f.blocks)) given y (block_start block.id)) [
      | inl h ↦
          let both = and_parts (nat_eq b 0) (is_unset given y) h in
          begins (inl (both.1, ap block_start (is_first f.blocks b block (eqb-true b 0 both.0) at)))
      | inr h ↦ stale y h
    ] where
      is_first : (bs : List Block) (b : ℕ) (c : Block) → b ≡ 0 → slice_get bs b ≡ Some c → c.id ≡ first_of bs
      is_first [] b c zero_is h = absurd cc
      is_first (d ∷ ds) zero c zero_is h = let same : d ≡ c = cc in ap (λ (x : Block). x.id) (sym same)
      is_first (d ∷ ds) (suc b) c zero_is h = absurd (omega (arith, zero_is))

module _ (slots ids : List ℕ) (f : Function) (given : ℕ → Option ℕ) (apart : AreApart (ids_of f.blocks)) (names : ids ≡ ids_of f.blocks) where
  -- what a block hands on is stale, where what is in the sets is
  hands_stale : (sets : List (List ℕ)) → AreFound slots ids f given sets → (b : ℕ) (block : Block) →
      slice_get f.blocks b ≡ Some block → (n : ℕ) (x : Place) → HandsOn slots ids f given sets b n x → IsStaleIn f given x (block_start n)
  hands_stale sets found b block at n x hands resolve =
      let same_items : items_at f.blocks b ≡ block.items = items_at_is f.blocks b block at in
      let from = from_block-at f.blocks b block apart at in
      let index : index_in ids block.id ≡ Some b =
      ap (λ (ns : List ℕ). index_in ns block.id) names ∙ index_at (ids_of f.blocks) b block.id apart (id_among f.blocks b block at) in
      let begun : (y : Place) → started slots ids f given sets b y ≡ true →
      IsStale (program_of false f.blocks resolve) (block_start (first_of f.blocks)) given y (block_start block.id) =
      λ y e. started_stale f given resolve b block at (has slots (get_or sets b []))
      (λ z g. found block.id z (ap (λ (o : Option ℕ). has slots (set_at sets o) z) index ∙ g) resolve) y e in
      let one : b + 1 ≡ suc b = omega arith in
      let next : slice_get (ids_of f.blocks) (b + 1) ≡ next_of (drop (suc b) f.blocks) = ap (slice_get (ids_of f.blocks)) one ∙
      sym (next_of-drop f.blocks (suc b)) in
      elim hands as (λ _. IsStale (program_of false f.blocks resolve) (block_start (first_of f.blocks)) given x (block_start n)) [
        | inl h ↦ handed_stale given f resolve block (drop (suc b) f.blocks) from (started slots ids f given sets b) begun (length block.items) n x
            (subst (λ (is : List Item). IsHanded given is (started slots ids f given sets b) (length is) n x) same_items h)
        | inr h ↦ handed_down_stale given f resolve block (drop (suc b) f.blocks) from (started slots ids f given sets b) begun
            (slice_get (ids_of f.blocks) (b + 1)) next n x
            (subst (λ (is : List Item). IsHandedDown given is (started slots ids f given sets b)
            (slice_get (ids_of f.blocks) (b + 1)) n x) same_items h)
      ]

  found_visit : (old new : List (List ℕ)) (b : ℕ) (grown : Bool) → b < length f.blocks → Handed slots ids old new (HandsOn slots ids f given old b) grown →
      AreFound slots ids f given old → AreFound slots ids f given new
  found_visit old new b grown inside h found n x e =
      let w = at_of f.blocks b inside in
      elim (h.found n x e) as (λ _. IsStaleIn f given x (block_start n)) [
        | inl v ↦ found n x v
        | inr v ↦ hands_stale old found b w.0 w.1 n x v
      ]

  closed_visit : (old new : List (List ℕ)) (b : ℕ) (grown : Bool) → Handed slots ids old new (HandsOn slots ids f given old b) grown → grown ≡ false →
      IsClosed slots ids f given new b
  closed_visit old new b grown h e = subst (λ (s : List (List ℕ)). IsClosed slots ids f given s b) (sym (h.same e)) (λ n x c v. h.all e n x c v)

-- ---- a visit

pub visited : (slots ids : List ℕ) (f : Function) (given : ℕ → Option ℕ) (old new : List (List ℕ)) (b : ℕ) (grown : Bool) →
    IsState slots ids f given old → b < length f.blocks → Handed slots ids old new (HandsOn slots ids f given old b) grown →
    Visited (IsState slots ids f given) (IsClosed slots ids f given) gap_of old new b grown
visited slots ids f given old new b grown s inside h = record {
  valid = record {
    names = s.names;
    apart = s.apart;
    long = h.long ∙ s.long;
    found = found_visit slots ids f given apart s.names old new b grown inside h s.found;
  };
  level = by_grown grown h.fuller h.same;
  lower = h.fuller;
  closed = λ e. closed_visit slots ids f given apart s.names old new b grown h e;
  kept = λ e c closed. subst (λ (st : List (List ℕ)). IsClosed slots ids f given st c) (sym (h.same e)) closed;
} where
  apart : AreApart (ids_of f.blocks)
  apart = subst AreApart s.names s.apart

  by_grown : (g : Bool) → (g ≡ true → gap_of new < gap_of old) → (g ≡ false → new ≡ old) → gap_of new ≤ gap_of old
  by_grown true less same = let l : gap_of new < gap_of old = less refl in omega arith
  by_grown false less same = let l : gap_of new ≡ gap_of old = ap gap_of (same refl) in omega arith

-- ---- what was found is all that is wrong

target_there : (ns : List ℕ) (r : Row) (n : ℕ) → TargetIn ns r → IsOut (row_exit r) n → Contains ns n
target_there ns (Branches op a b t) n h o = subst (Contains ns) o h
target_there ns (Jumps t) n h o = subst (Contains ns) o h
target_there ns r n h o = absurd o

out_there : (ns : List ℕ) (k : ItemKind) (n : ℕ) → TargetsIn ns k → IsOut (exit_of k) n → Contains ns n
out_there ns (Code i m) n h o = target_there ns (row_of i) n h o
out_there ns (Mark v m) n h o = absurd o
out_there ns (Phi p m) n h o = absurd o

all_at : (P : Item → Type 0) (items : List Item) (k : ℕ) (i : Item) → All P items → slice_get items k ≡ Some i → P i
all_at P items k i all at = (let l = less items k i at in subst P (is items k i at) (all k i l)) where
  less : (xs : List Item) (k : ℕ) (i : Item) → slice_get xs k ≡ Some i → k < length xs
  less [] k i e = absurd cc
  less (c ∷ cs) zero i e = omega arith
  less (c ∷ cs) (suc k) i e = let l : k < length cs = less cs k i e in omega arith

  is : (xs : List Item) (k : ℕ) (i : Item) → slice_get xs k ≡ Some i → get_or xs k i ≡ i
  is [] k i e = refl
  is (c ∷ cs) zero i e = cc
  is (c ∷ cs) (suc k) i e = is cs k i e

no_block : (bs : List Block) (n i : ℕ) → from_block bs n ≡ [] → index_in (ids_of bs) n ≡ Some i → ⊥
no_block [] n i h e = cc
no_block (b ∷ bs) n i h e = by_test (nat_eq b.id n) (index_in (ids_of bs) n) refl (λ j g k. no_block bs n j g k) h e where
  by_test : (z : Bool) (o : Option ℕ) → index_in (ids_of bs) n ≡ o → ((j : ℕ) → from_block bs n ≡ [] → index_in (ids_of bs) n ≡ Some j → ⊥) →
      cond z (b ∷ bs) (from_block bs n) ≡ [] → cond z (Some 0) (option_map suc o) ≡ Some i → ⊥
  by_test true o is again h e = cc
  by_test false None is again h e = cc
  by_test false (Some j) is again h e = again j h is

drop_none : (xs : List Item) → drop 0 xs ≡ xs
drop_none [] = refl
drop_none (y ∷ ys) = refl

module _ (f : Function) (sound : IsSound f) (given : ℕ → Option ℕ) (w : StaleSets) (names : w.ids ≡ ids_of f.blocks)
    (found : AreFound w.slots w.ids f given w.starts) (closed : (b : ℕ) → b < length f.blocks → IsClosed w.slots w.ids f given w.starts b)
    (resolve : OperandPair → Option OperandPair) where
  abbrev StaleHere : Place → Pos → Type 0
  StaleHere x p = IsStale (program_of false f.blocks resolve) (block_start (first_of f.blocks)) given x p

  begun : (n : ℕ) (y : Place) → starts_of f given w n y ≡ true → StaleHere y (block_start n)
  begun n y e =
      elim (or_cases (nat_eq n (first_of f.blocks) && is_unset given y) (has_at_start w.slots w.ids w.starts n y) e) as (λ _. StaleHere y (block_start n)) [
        | inl h ↦
            let both = and_parts (nat_eq n (first_of f.blocks)) (is_unset given y) h in
            begins (inl (both.1, ap block_start (eqb-true n (first_of f.blocks) both.0)))
        | inr h ↦ found n y h resolve
      ]

  -- it is stale
  is_stale : (p : Pos) (x : Place) → stale_of given f (starts_of f given w) p x ≡ true → StaleHere x p
  is_stale p x = by_blocks (from_block f.blocks p.block) refl where
    by_blocks : (bs : List Block) → from_block f.blocks p.block ≡ bs → stale_in given bs (starts_of f given w) p.item x ≡ true → StaleHere x p
    by_blocks [] h e = absurd cc
    by_blocks (b ∷ bs) h e =
        let i = block_found f.blocks p.block b bs h in
        let from : from_block f.blocks b.id ≡ b ∷ bs = ap (from_block f.blocks) i.1.id ∙ h in
        subst (λ (n : ℕ). StaleHere x (pos_in n p.item)) i.1.id
        (at_stale given f resolve b bs from (starts_of f given w b.id) (begun b.id) p.item x e)

  -- a block that is there
  at_start : (n : ℕ) (x : Place) → Contains w.ids n → starts_of f given w n x ≡ true → stale_of given f (starts_of f given w) (block_start n) x ≡ true
  at_start n x there e = by_blocks (from_block f.blocks n) refl where
    by_blocks : (bs : List Block) → from_block f.blocks n ≡ bs → stale_in given bs (starts_of f given w) 0 x ≡ true
    by_blocks [] h =
        let i = found_index w.ids n there in
        let j = ap (λ (ns : List ℕ). index_in ns n) (sym names) ∙ i.1 in
        absurd (no_block f.blocks n i.0 h j)
    by_blocks (b ∷ bs) h = let i = block_found f.blocks n b bs h in ap (λ (m : ℕ). starts_of f given w m x) i.1.id ∙ e

  -- past one more item or a block's end
  module _ (x : Place) (b : ℕ) (block : Block) (rest : List Block) (at : slice_get f.blocks b ≡ Some block) (is_rest : rest ≡ drop (suc b) f.blocks)
      (from : from_block f.blocks block.id ≡ block ∷ rest) (k : ℕ) where
    same_items : items_at f.blocks b ≡ block.items
    same_items = items_at_is f.blocks b block at

    index : index_in w.ids block.id ≡ Some b
    index = ap (λ (ns : List ℕ). index_in ns block.id) names ∙ index_at (ids_of f.blocks) b block.id sound.blocks_apart (id_among f.blocks b block at)

    same_start : starts_of f given w block.id ≡ started w.slots w.ids f given w.starts b
    same_start =
        λ t y. (first_alone f.blocks b block sound.blocks_apart at t && is_unset given y) || has w.slots (set_at w.starts (index t)) y

    abbrev To : List Item → Places → ℕ → Type 0
    To is start n = IsHanded given is start (length is) n x ⊎ IsHandedDown given is start (slice_get (ids_of f.blocks) (b + 1)) n x

    to_start : (n : ℕ) → Contains w.ids n → To block.items (starts_of f given w block.id) n → starts_of f given w n x ≡ true
    to_start n there h =
        or_right (nat_eq n (first_of f.blocks) && is_unset given x) (has_at_start w.slots w.ids w.starts n x)
        (closed b (got_inside f.blocks b block at) n x there
        (subst (λ (is : List Item). To is (started w.slots w.ids f given w.starts b) n) (sym same_items)
        (subst (λ (s : Places). To block.items s n) same_start h)))

    pub past_item : (i : Item) → slice_get block.items k ≡ Some i →
        stale_past given i.kind
        (stale_at given block.items k (starts_of f given w block.id)) x ≡ true →
        (q : Pos) → Edge (program_of false f.blocks resolve) (pos_in block.id k) q → stale_of given f (starts_of f given w) q x ≡ true
    past_item i stands past q edge = elim (kind_edge i.kind (pos_in block.id k) q
        (subst (λ (z : Fetch). FetchEdge Stays z (pos_in block.id k) q) fetched edge)) [
          | inl (e, down) ↦
              let one : k + 1 ≡ suc k = omega arith in
              ap (λ (r : Pos). stale_of given f (starts_of f given w) r x) e ∙
              (ap (λ (bs : List Block). stale_in given bs (starts_of f given w) (k + 1) x) from ∙
              (ap (λ (n : ℕ). stale_at given block.items n (starts_of f given w block.id) x) one ∙
              (ap (λ (o : Option Item). stale_over given o
              (stale_at given block.items k (starts_of f given w block.id)) x) stands ∙
              and_true (goes_on (exit_of i.kind)) _ (down_goes (exit_of i.kind) down) past)))
          | inr (n, e, out) ↦
              let there : Contains w.ids n = subst (λ (ns : List ℕ). Contains ns n) (sym names) (out_there (ids_of f.blocks) i.kind n target out) in
              ap (λ (r : Pos). stale_of given f (starts_of f given w) r x) e ∙ at_start n x there (to_start n there (inl (record {
                index = k;
                within = less block.items k i stands;
                item = i;
                stands = stands;
                out = out;
                stale = past;
              })))
        ] where
          fetched : (program_of false f.blocks resolve).fetch (pos_in block.id k) ≡ Here i
          fetched = ap (λ (bs : List Block). fetch_in bs k) from ∙ ap (λ (is : List Item). front is block.source_end rest) (drop_at block.items k i stands)

          target : TargetsIn (ids_of f.blocks) i.kind
          target = all_at (λ (j : Item). TargetsIn (ids_of f.blocks) j.kind) block.items k i
              (subst (λ (is : List Item). All (λ (j : Item). TargetsIn (ids_of f.blocks) j.kind) is) (drop_none block.items)
              (all_below (λ (j : Item). TargetsIn (ids_of f.blocks) j.kind) f.blocks b block 0 sound.targets at)) stands

          less : (xs : List Item) (k : ℕ) (i : Item) → slice_get xs k ≡ Some i → k < length xs
          less [] k i e = absurd cc
          less (c ∷ cs) zero i e = omega arith
          less (c ∷ cs) (suc k) i e = let l : k < length cs = less cs k i e in omega arith

    pub past_end : length block.items ≤ k → stale_at given block.items k (starts_of f given w block.id) x ≡ true →
        (q : Pos) → Edge (program_of false f.blocks resolve) (pos_in block.id k) q → stale_of given f (starts_of f given w) q x ≡ true
    past_end far e q edge = by_next rest is_rest (subst (λ (z : Fetch). FetchEdge Stays z (pos_in block.id k) q) fetched edge) where
      within : k ≤ length block.items
      within = at_within given block.items k (starts_of f given w block.id) x e

      last : k ≡ length block.items
      last = omega (arith, within, far)

      none_left : (xs : List Item) (k : ℕ) → length xs ≤ k → drop k xs ≡ []
      none_left [] zero l = refl
      none_left [] (suc k) l = refl
      none_left (y ∷ ys) zero l = absurd (omega arith)
      none_left (y ∷ ys) (suc k) l = none_left ys k (omega arith)

      fetched : (program_of false f.blocks resolve).fetch (pos_in block.id k) ≡ end_of block.source_end rest
      fetched = ap (λ (bs : List Block). fetch_in bs k) from ∙ ap (λ (is : List Item). front is block.source_end rest) (none_left block.items k far)

      by_next : (bs : List Block) → bs ≡ drop (suc b) f.blocks → FetchEdge Stays (end_of block.source_end bs) (pos_in block.id k) q →
          stale_of given f (starts_of f given w) q x ≡ true
      by_next [] is h = absurd h
      by_next (c ∷ cs) is h =
          let one : b + 1 ≡ suc b = omega arith in
          let next : slice_get (ids_of f.blocks) (b + 1) ≡ Some c.id =
          ap (slice_get (ids_of f.blocks)) one ∙ (sym (next_of-drop f.blocks (suc b)) ∙ ap next_of (sym is)) in
          let there : Contains w.ids c.id = subst (λ (ns : List ℕ). Contains ns c.id) (sym names) (got_contains (ids_of f.blocks) (b + 1) c.id next) in
          ap (λ (r : Pos). stale_of given f (starts_of f given w) r x) h ∙ at_start c.id x there (to_start c.id there (inr (
            next,
            ap (λ (n : ℕ). stale_at given block.items n (starts_of f given w block.id) x) (sym last) ∙ e,
          )))

  -- from a position to the next
  goes_over : (x : Place) (p q : Pos) → Edge (program_of false f.blocks resolve) p q →
      ((b : ℕ) (block : Block) (rest : List Block) → slice_get f.blocks b ≡ Some block → (from : from_block f.blocks block.id ≡ block ∷ rest) →
      block.id ≡ p.block →
      ((i : Item) → slice_get block.items p.item ≡ Some i →
      stale_past given i.kind
      (stale_at given block.items p.item (starts_of f given w block.id)) x ≡ true) ×
      (drop p.item block.items ≡ [] → stale_at given block.items p.item (starts_of f given w block.id) x ≡ true)) →
      stale_of given f (starts_of f given w) q x ≡ true
  goes_over x p q edge h = by_blocks (from_block f.blocks p.block) refl edge where
    by_blocks : (bs : List Block) → from_block f.blocks p.block ≡ bs → FetchEdge Stays (fetch_in bs p.item) p q →
        stale_of given f (starts_of f given w) q x ≡ true
    by_blocks [] g e = absurd e
    by_blocks (c ∷ cs) g e =
        let i = block_found f.blocks p.block c cs g in
        let from : from_block f.blocks c.id ≡ c ∷ cs = ap (from_block f.blocks) i.1.id ∙ g in
        let mine : Edge (program_of false f.blocks resolve) (pos_in c.id p.item) q =
        subst (λ (n : ℕ). Edge (program_of false f.blocks resolve) (pos_in n p.item) q) (sym i.1.id) edge in
        let k = h i.0 c cs i.1.at from i.1.id in
        by_rest i.0 i.1.at i.1.rest from mine k.0 k.1 (drop p.item c.items) refl where
          by_rest : (b : ℕ) → slice_get f.blocks b ≡ Some c → cs ≡ drop (suc b) f.blocks → from_block f.blocks c.id ≡ c ∷ cs →
              Edge (program_of false f.blocks resolve) (pos_in c.id p.item) q →
              ((i : Item) → slice_get c.items p.item ≡ Some i → stale_past given i.kind
              (stale_at given c.items p.item (starts_of f given w c.id)) x ≡ true) →
              (drop p.item c.items ≡ [] → stale_at given c.items p.item (starts_of f given w c.id) x ≡ true) →
              (is : List Item) → drop p.item c.items ≡ is → stale_of given f (starts_of f given w) q x ≡ true
          by_rest b at r from mine there none [] is =
              past_end x b c cs at r from p.item (drop_past c.items p.item is) (none is) q mine
          by_rest b at r from mine there none (j ∷ js) is =
              let stands = get_drop c.items p.item j js is in past_item x b c cs at r from p.item j stands (there j stands) q mine

  -- the function has a first block
  first_there : Contains (ids_of f.blocks) (first_of f.blocks)
  first_there = by_blocks f.blocks sound.last where
    by_blocks : (bs : List Block) → LastCloses bs → Contains (ids_of bs) (first_of bs)
    by_blocks [] none = absurd none
    by_blocks (b ∷ bs) last = (0, omega arith, refl)

  -- nothing at a block's end takes a place
  none_takes : (x : Place) (p : Pos) (block : Block) (rest : List Block) → from_block f.blocks block.id ≡ block ∷ rest → drop p.item block.items ≡ [] →
      block.id ≡ p.block → takes_at given ((program_of false f.blocks resolve).fetch p) x ≡ true → ⊥
  none_takes x p block rest from none id takes =
      let place : pos_in block.id p.item ≡ p = ap (λ (n : ℕ). pos_in n p.item) id in
      let fetched : (program_of false f.blocks resolve).fetch (pos_in block.id p.item) ≡ end_of block.source_end rest =
      ap (λ (bs : List Block). fetch_in bs p.item) from ∙ ap (λ (is : List Item). front is block.source_end rest) none in
      at_end rest (subst (λ (z : Fetch). takes_at given z x ≡ true) fetched
      (subst (λ (r : Pos). takes_at given ((program_of false f.blocks resolve).fetch r) x ≡ true) (sym place) takes)) where
        at_end : (bs : List Block) → takes_at given (end_of block.source_end bs) x ≡ true → ⊥
        at_end [] h = cc
        at_end (c ∷ cs) h = cc

  said_first : (x : Place) (q : Pos) → (is_unset given x ≡ true) × (q ≡ block_start (first_of f.blocks)) → stale_of given f (starts_of f given w) q x ≡ true
  said_first x q (unset, is) =
      ap (λ (r : Pos). stale_of given f (starts_of f given w) r x) is ∙
      at_start (first_of f.blocks) x (subst (λ (ns : List ℕ). Contains ns (first_of f.blocks)) (sym names) first_there)
      (or_left (nat_eq (first_of f.blocks) (first_of f.blocks) && is_unset given x) (has_at_start w.slots w.ids w.starts (first_of f.blocks) x)
      (and_true (nat_eq (first_of f.blocks) (first_of f.blocks)) (is_unset given x) (eq-eqb (first_of f.blocks) (first_of f.blocks) refl) unset))

  said_taken : (x : Place) (p q : Pos) → takes_at given ((program_of false f.blocks resolve).fetch p) x ≡ true → Edge (program_of false f.blocks resolve) p q →
      stale_of given f (starts_of f given w) q x ≡ true
  said_taken x p q takes edge = goes_over x p q edge (λ b block rest at from id. (
    λ i stands. (let place : pos_in block.id p.item ≡ p = ap (λ (n : ℕ). pos_in n p.item) id in
        stale_made given f resolve block rest from p.item i (stale_at given block.items p.item (starts_of f given w block.id)) x stands
        (subst (λ (r : Pos). takes_at given ((program_of false f.blocks resolve).fetch r) x ≡ true) (sym place) takes)),
    λ none. absurd (none_takes x p block rest from none id takes),
  ))

  said_begun : (x : Place) (q : Pos) →
      ((is_unset given x ≡ true) × (q ≡ block_start (first_of f.blocks))) ⊎
      ((p : Pos) × (takes_at given ((program_of false f.blocks resolve).fetch p) x ≡ true) × Edge (program_of false f.blocks resolve) p q) →
      stale_of given f (starts_of f given w) q x ≡ true
  said_begun x q (inl h) = said_first x q h
  said_begun x q (inr (p, takes, edge)) = said_taken x p q takes edge

  -- all that is stale is said
  all_said : (x : Place) (p : Pos) → StaleHere x p → stale_of given f (starts_of f given w) p x ≡ true
  all_said x q (begins h) = said_begun x q h
  all_said x q (comes_on {p} before keeps edge) =
      let so_far = all_said x p before in
      goes_over x p q edge (λ b block rest at from id.
      (let place : pos_in block.id p.item ≡ p = ap (λ (n : ℕ). pos_in n p.item) id in
      let here : stale_at given block.items p.item (starts_of f given w block.id) x ≡ true =
      sym (ap (λ (bs : List Block). stale_in given bs (starts_of f given w) p.item x) (ap (from_block f.blocks) (sym id) ∙ from)) ∙ so_far in (
        λ i stands. stale_on given f resolve block rest from p.item i (stale_at given block.items p.item (starts_of f given w block.id)) x stands here
            (λ d. keeps (subst (λ (r : Pos). Defines ((program_of false f.blocks resolve).fetch r) x) place d)),
        λ none. here,
      )))

  pub exactly : (p : Pos) (x : Place) → (stale_of given f (starts_of f given w) p x ≡ true) ↔ StaleHere x p
  exactly p x = (is_stale p x, all_said x p)

-- the sets at first: nothing is found
pub begun_empty : (slots ids : List ℕ) (f : Function) (given : ℕ → Option ℕ) (starts : List (List ℕ)) → ids ≡ ids_of f.blocks → AreApart (ids_of f.blocks) →
    length starts ≡ length f.blocks → ((slots : List ℕ) (b : ℕ) (x : Place) → has slots (get_or starts b []) x ≡ false) → IsState slots ids f given starts
begun_empty slots ids f given starts names apart long none = record {
  names = names;
  apart = subst AreApart (sym names) apart;
  long = long;
  found = empty;
} where
  empty : AreFound slots ids f given starts
  empty n x = by_index (index_in ids n) where
    by_index : (o : Option ℕ) → has slots (set_at starts o) x ≡ true → IsStaleIn f given x (block_start n)
    by_index None e = let c : false ≡ true = sym (has_nothing slots x) ∙ e in absurd cc
    by_index (Some i) e = let c : false ≡ true = sym (none slots i x) ∙ e in absurd cc

pub solved : (f : Function) → IsSound f → (given : ℕ → Option ℕ) (slots ids : List ℕ) (starts : List (List ℕ)) →
    IsState slots ids f given starts → ((b : ℕ) → b < length f.blocks → IsClosed slots ids f given starts b) →
    AreStaleSets f given (record { slots = slots; ids = ids; starts = starts })
solved f sound given slots ids starts s closed = record {
  ids = s.names;
  long = s.long;
  exact = λ p x resolve. exactly f sound given (record { slots = slots; ids = ids; starts = starts }) s.names s.found closed resolve p x;
}
