-- Visits of blocks: what is found is wrong, and where nothing grew all that is wrong was found.
use Rattle.std.proofs.Common.{◌≡◌, ◌↔◌, ◌⊎◌, ℕ, zero, suc, ◌+◌, ◌<◌, ◌≤◌, Bool, true, false}
use Rattle.std.proofs.Common.{List, [], ◌∷◌, length, drop, map, get_or, cond, nat_eq, Option, Some, None}
use Rattle.std.proofs.Common.{refl, sym, ap, ◌∙◌, inl, inr, arith, subst}
use Rattle.std.specs.Prelude.{slice_get, Contains, All, option_map}
use Rattle.rv64_instr.specs.declared.place.Place.{Place}
use Rattle.rv64_instr.specs.Row.{Row, Branches, Jumps, row_of}
use Rattle.mir_func.specs.declared.block.Block.{Block}
use Rattle.mir_func.specs.declared.item.Item.{Item}
use Rattle.mir_func.specs.declared.item.ItemKind.{ItemKind}
use Rattle.mir_func.specs.declared.item.ItemKind.TheVariants.{Code, Mark, Phi}
use Rattle.mir_func.specs.declared.position.Pos.{Pos}
use Rattle.mir_func.specs.Exits.{row_exit, exit_of}
use Rattle.mir_func.specs.Function.{Function}
use Rattle.mir_func.specs.Graph.{Fetch, Here, Edge, FetchEdge, block_start, from_block, front, fetch_in, end_of}
use Rattle.mir_func.specs.Sound.{IsSound, AllItems, SlotsIn, AreApart, TargetIn, TargetsIn, ids_of}
use Rattle.mir_func.specs.Successors.{pos_in}
use Rattle.mir_func.proofs.Ways.{IsOut}
use Rattle.pass_liveness.specs.sem_mir.Live.{Defines}
use Rattle.dataflow.specs.Fixpoint.{Visited}
use Rattle.pass_liveness.specs.Index.{index_in}
use Rattle.pass_liveness.specs.Sets.{has}
use Rattle.pass_liveness.specs.Liveness.{set_at, items_at}
use Rattle.pass_liveness.specs.Solving.{gap_of}
use Rattle.pass_liveness.proofs.Edges.{Stays, kind_edge}
use Rattle.pass_liveness.proofs.Blocks.{block_found, from_block-at, next_of-drop, index_at, items_at_is, all_below}
use Rattle.pass_liveness.proofs.Paths.{next_of}
use Rattle.pass_liveness.proofs.Places.{has_nothing}
use Rattle.dce_analysis.specs.dce_rule.Dead.{Places, Ends, paths_of}
use Rattle.dce_analysis.specs.dce_rule.Wrong.{is_dead_at, IsWrongAt, made, on}
use Rattle.dce_analysis.specs.Judge.{verdicts}
use Rattle.dce_stale.specs.Flow.{wrong_past, wrong_over, wrong_at, goes_on, IsHanded, IsHandedDown}
use Rattle.dce_stale.specs.Sets.{AreVerdicts, Handed, HandsOn, IsClosed, AreFound, IsState, wrong_in, wrong_of, StaleSets, starts_of, AreStaleSets}
use Rattle.dce_stale.proofs.Handing.{found_index}
use Rattle.dce_stale.proofs.Exact.{and_true, down_goes, drop_at, drop_past, get_drop}
use Rattle.dce_stale.proofs.Exact.{at_within, at_wrong, handed_wrong, handed_down_wrong, wrong_made, wrong_on}

-- the block at an index
pub at_of : (blocks : List Block) (b : ℕ) → b < length blocks → (block : Block) × (slice_get blocks b ≡ Some block)
at_of [] b l = absurd (omega arith)
at_of (c ∷ cs) zero l = (c, refl)
at_of (c ∷ cs) (suc b) l = at_of cs b (omega arith)

-- a block's verdicts are those at its index
pub verdicts_at : (ends : Ends) (blocks : List Block) (b : ℕ) (block : Block) → slice_get blocks b ≡ Some block →
    get_or (map (λ (c : Block). verdicts c.items (ends c.id)) blocks) b [] ≡ verdicts block.items (ends block.id)
verdicts_at ends [] b block e = absurd cc
verdicts_at ends (c ∷ cs) zero block e = let same : c ≡ block = cc in ap (λ (d : Block). verdicts d.items (ends d.id)) same
verdicts_at ends (c ∷ cs) (suc b) block e = verdicts_at ends cs b block e

pub id_among : (blocks : List Block) (i : ℕ) (b : Block) → slice_get blocks i ≡ Some b → slice_get (ids_of blocks) i ≡ Some b.id
id_among [] i b e = absurd cc
id_among (c ∷ cs) zero b e = let same : c ≡ b = cc in ap (λ (x : Block). Some x.id) same
id_among (c ∷ cs) (suc i) b e = id_among cs i b e

got_contains : (ns : List ℕ) (i n : ℕ) → slice_get ns i ≡ Some n → Contains ns n
got_contains [] i n e = absurd cc
got_contains (m ∷ ns) zero n e = let same : m ≡ n = cc in (zero, omega arith, same)
got_contains (m ∷ ns) (suc i) n e = (let w = got_contains ns i n e in let l = w.1 in (suc w.0, omega (arith, l), w.2))

got_inside : (xs : List Block) (i : ℕ) (c : Block) → slice_get xs i ≡ Some c → i < length xs
got_inside [] i c e = absurd cc
got_inside (y ∷ ys) zero c e = omega arith
got_inside (y ∷ ys) (suc i) c e = let l : i < length ys = got_inside ys i c e in omega arith

module _ (slots ids : List ℕ) (f : Function) (dead : List (List Bool)) (apart : AreApart (ids_of f.blocks)) (names : ids ≡ ids_of f.blocks) where
  -- what a block hands on is wrong, where what is in the sets is
  hands_wrong : (sets : List (List ℕ)) → AreFound slots ids f dead sets → (ends : Ends) → AreVerdicts ends f dead → (b : ℕ) (block : Block) →
      slice_get f.blocks b ≡ Some block → (n : ℕ) (x : Place) → HandsOn slots ids f dead sets b n x → IsWrongAt ends f x (block_start n)
  hands_wrong sets found ends judged b block at n x hands =
      let same_items : items_at f.blocks b ≡ block.items = items_at_is f.blocks b block at in
      let same_dead : get_or dead b [] ≡ verdicts block.items (ends block.id) =
      ap (λ (ds : List (List Bool)). get_or ds b []) judged ∙ verdicts_at ends f.blocks b block at in
      let begins = from_block-at f.blocks b block apart at in
      let index : index_in ids block.id ≡ Some b =
      ap (λ (ns : List ℕ). index_in ns block.id) names ∙ index_at (ids_of f.blocks) b block.id apart (id_among f.blocks b block at) in
      let begun : (y : Place) → has slots (get_or sets b []) y ≡ true → IsWrongAt ends f y (block_start block.id) =
      λ y e. found ends judged block.id y (ap (λ (o : Option ℕ). has slots (set_at sets o) y) index ∙ e) in
      let one : b + 1 ≡ suc b = omega arith in
      let next : slice_get (ids_of f.blocks) (b + 1) ≡ next_of (drop (suc b) f.blocks) = ap (slice_get (ids_of f.blocks)) one ∙
      sym (next_of-drop f.blocks (suc b)) in
      elim hands [
        | inl h ↦ handed_wrong ends f block (drop (suc b) f.blocks) begins (has slots (get_or sets b [])) begun (length block.items) n x
            (subst (λ (ds : List Bool). IsHanded block.items ds (has slots (get_or sets b [])) (length block.items) n x) same_dead
            (subst (λ (is : List Item). IsHanded is (get_or dead b []) (has slots (get_or sets b [])) (length is) n x) same_items h))
        | inr h ↦ handed_down_wrong ends f block (drop (suc b) f.blocks) begins (has slots (get_or sets b [])) begun
            (slice_get (ids_of f.blocks) (b + 1)) next n x
            (subst (λ (ds : List Bool). IsHandedDown block.items ds (has slots (get_or sets b [])) (slice_get (ids_of f.blocks) (b + 1)) n x) same_dead
            (subst (λ (is : List Item). IsHandedDown is (get_or dead b []) (has slots (get_or sets b []))
            (slice_get (ids_of f.blocks) (b + 1)) n x) same_items h))
      ]

  found_visit : (old new : List (List ℕ)) (b : ℕ) (grown : Bool) → b < length f.blocks → Handed slots ids old new (HandsOn slots ids f dead old b) grown →
      AreFound slots ids f dead old → AreFound slots ids f dead new
  found_visit old new b grown inside h found ends judged n x e =
      let w = at_of f.blocks b inside in
      elim (h.found n x e) [
        | inl v ↦ found ends judged n x v
        | inr v ↦ hands_wrong old found ends judged b w.0 w.1 n x v
      ]

  closed_visit : (old new : List (List ℕ)) (b : ℕ) (grown : Bool) → Handed slots ids old new (HandsOn slots ids f dead old b) grown → grown ≡ false →
      IsClosed slots ids f dead new b
  closed_visit old new b grown h e = subst (λ (s : List (List ℕ)). IsClosed slots ids f dead s b) (sym (h.same e)) (λ n x c v. h.all e n x c v)

-- ---- a visit

pub visited : (slots ids : List ℕ) (f : Function) (dead : List (List Bool)) (old new : List (List ℕ)) (b : ℕ) (grown : Bool) →
    IsState slots ids f dead old → b < length f.blocks → Handed slots ids old new (HandsOn slots ids f dead old b) grown →
    Visited (IsState slots ids f dead) (IsClosed slots ids f dead) gap_of old new b grown
visited slots ids f dead old new b grown s inside h = record {
  valid = record {
    known = s.known;
    names = s.names;
    apart = s.apart;
    long = h.long ∙ s.long;
    found = found_visit slots ids f dead apart s.names old new b grown inside h s.found;
  };
  level = by_grown grown h.fuller h.same;
  lower = h.fuller;
  closed = λ e. closed_visit slots ids f dead apart s.names old new b grown h e;
  kept = λ e c closed. subst (λ (st : List (List ℕ)). IsClosed slots ids f dead st c) (sym (h.same e)) closed;
} where
  apart : AreApart (ids_of f.blocks)
  apart = subst AreApart s.names s.apart

  by_grown : (g : Bool) → (g ≡ true → gap_of new < gap_of old) → (g ≡ false → new ≡ old) → gap_of new ≤ gap_of old
  by_grown true less same = let l : gap_of new < gap_of old = less refl in omega arith
  by_grown false less same = let l : gap_of new ≡ gap_of old = ap gap_of (same refl) in omega arith

-- ---- what was found is all that is wrong

target_there : (ns : List ℕ) (r : Row) (n : ℕ) → TargetIn ns r → IsOut (row_exit r) n → Contains ns n
target_there ns (Branches op a b t) n h o = subst (Contains ns) o h
target_there ns (Jumps t) n h o = subst (Contains ns) o h
target_there ns r n h o = absurd o

out_there : (ns : List ℕ) (k : ItemKind) (n : ℕ) → TargetsIn ns k → IsOut (exit_of k) n → Contains ns n
out_there ns (Code i m) n h o = target_there ns (row_of i) n h o
out_there ns (Mark v m) n h o = absurd o
out_there ns (Phi p m) n h o = absurd o

all_at : (P : Item → Type 0) (items : List Item) (k : ℕ) (i : Item) → All P items → slice_get items k ≡ Some i → P i
all_at P items k i all at = (let l = less items k i at in subst P (is items k i at) (all k i l)) where
  less : (xs : List Item) (k : ℕ) (i : Item) → slice_get xs k ≡ Some i → k < length xs
  less [] k i e = absurd cc
  less (c ∷ cs) zero i e = omega arith
  less (c ∷ cs) (suc k) i e = let l : k < length cs = less cs k i e in omega arith

  is : (xs : List Item) (k : ℕ) (i : Item) → slice_get xs k ≡ Some i → get_or xs k i ≡ i
  is [] k i e = refl
  is (c ∷ cs) zero i e = cc
  is (c ∷ cs) (suc k) i e = is cs k i e

no_block : (bs : List Block) (n i : ℕ) → from_block bs n ≡ [] → index_in (ids_of bs) n ≡ Some i → ⊥
no_block [] n i h e = cc
no_block (b ∷ bs) n i h e = by_test (nat_eq b.id n) (index_in (ids_of bs) n) refl (λ j g k. no_block bs n j g k) h e where
  by_test : (z : Bool) (o : Option ℕ) → index_in (ids_of bs) n ≡ o → ((j : ℕ) → from_block bs n ≡ [] → index_in (ids_of bs) n ≡ Some j → ⊥) →
      cond z (b ∷ bs) (from_block bs n) ≡ [] → cond z (Some 0) (option_map suc o) ≡ Some i → ⊥
  by_test true o is again h e = cc
  by_test false None is again h e = cc
  by_test false (Some j) is again h e = again j h is

drop_none : (xs : List Item) → drop 0 xs ≡ xs
drop_none [] = refl
drop_none (y ∷ ys) = refl

module _ (f : Function) (sound : IsSound f) (dead : List (List Bool)) (w : StaleSets) (names : w.ids ≡ ids_of f.blocks)
    (found : AreFound w.slots w.ids f dead w.starts) (closed : (b : ℕ) → b < length f.blocks → IsClosed w.slots w.ids f dead w.starts b)
    (ends : Ends) (judged : AreVerdicts ends f dead) where
  abbrev S : ℕ → Places
  S = starts_of w

  abbrev W : Pos → Places
  W = wrong_of ends f (starts_of w)

  -- it is wrong
  is_wrong : (p : Pos) (x : Place) → wrong_of ends f (starts_of w) p x ≡ true → IsWrongAt ends f x p
  is_wrong p x = by_blocks (from_block f.blocks p.block) refl where
    by_blocks : (bs : List Block) → from_block f.blocks p.block ≡ bs → wrong_in ends bs (starts_of w) p.item x ≡ true → IsWrongAt ends f x p
    by_blocks [] h e = absurd cc
    by_blocks (b ∷ bs) h e =
        let i = block_found f.blocks p.block b bs h in
        let begins : from_block f.blocks b.id ≡ b ∷ bs = ap (from_block f.blocks) i.1.id ∙ h in
        subst (λ (n : ℕ). IsWrongAt ends f x (pos_in n p.item)) i.1.id
        (at_wrong ends f b bs begins (starts_of w b.id) (λ y g. found ends judged b.id y g) p.item x e)

  -- a block that is there
  at_start : (n : ℕ) (x : Place) → Contains w.ids n → starts_of w n x ≡ true → wrong_of ends f (starts_of w) (block_start n) x ≡ true
  at_start n x there e = by_blocks (from_block f.blocks n) refl where
    by_blocks : (bs : List Block) → from_block f.blocks n ≡ bs → wrong_in ends bs (starts_of w) 0 x ≡ true
    by_blocks [] h =
        let i = found_index w.ids n there in
        let j = ap (λ (ns : List ℕ). index_in ns n) (sym names) ∙ i.1 in
        absurd (no_block f.blocks n i.0 h j)
    by_blocks (b ∷ bs) h = let i = block_found f.blocks n b bs h in ap (λ (m : ℕ). starts_of w m x) i.1.id ∙ e

  -- past one more item or a block's end
  module _ (x : Place) (b : ℕ) (block : Block) (rest : List Block) (at : slice_get f.blocks b ≡ Some block) (is_rest : rest ≡ drop (suc b) f.blocks)
      (begins : from_block f.blocks block.id ≡ block ∷ rest) (k : ℕ) where
    here : Places
    here = wrong_at block.items (verdicts block.items (ends block.id)) k (starts_of w block.id)

    same_dead : get_or dead b [] ≡ verdicts block.items (ends block.id)
    same_dead = ap (λ (ds : List (List Bool)). get_or ds b []) judged ∙ verdicts_at ends f.blocks b block at

    same_items : items_at f.blocks b ≡ block.items
    same_items = items_at_is f.blocks b block at

    index : index_in w.ids block.id ≡ Some b
    index = ap (λ (ns : List ℕ). index_in ns block.id) names ∙ index_at (ids_of f.blocks) b block.id sound.blocks_apart (id_among f.blocks b block at)

    same_start : starts_of w block.id ≡ has w.slots (get_or w.starts b [])
    same_start = ap (λ (o : Option ℕ). has w.slots (set_at w.starts o)) index

    abbrev To : List Item → List Bool → Places → ℕ → Type 0
    To is ds start n = IsHanded is ds start (length is) n x ⊎ IsHandedDown is ds start (slice_get (ids_of f.blocks) (b + 1)) n x

    to_start : (n : ℕ) → Contains w.ids n → To block.items (verdicts block.items (ends block.id)) (starts_of w block.id) n → starts_of w n x ≡ true
    to_start n there h = closed b (got_inside f.blocks b block at) n x there
        (subst (λ (is : List Item). To is (get_or dead b []) (has w.slots (get_or w.starts b [])) n) (sym same_items)
        (subst (λ (ds : List Bool). To block.items ds (has w.slots (get_or w.starts b [])) n) (sym same_dead)
        (subst (λ (s : Places). To block.items (verdicts block.items (ends block.id)) s n) same_start h)))

    pub past_item : (i : Item) → slice_get block.items k ≡ Some i →
        wrong_past i.kind (get_or (verdicts block.items (ends block.id)) k false)
        (wrong_at block.items (verdicts block.items (ends block.id)) k (starts_of w block.id)) x ≡ true →
        (q : Pos) → Edge (paths_of f) (pos_in block.id k) q → wrong_of ends f (starts_of w) q x ≡ true
    past_item i stands past q edge = elim (kind_edge i.kind (pos_in block.id k) q
        (subst (λ (z : Fetch). FetchEdge Stays z (pos_in block.id k) q) fetched edge)) [
          | inl (e, down) ↦
              let one : k + 1 ≡ suc k = omega arith in
              ap (λ (r : Pos). wrong_of ends f (starts_of w) r x) e ∙
              (ap (λ (bs : List Block). wrong_in ends bs (starts_of w) (k + 1) x) begins ∙
              (ap (λ (n : ℕ). wrong_at block.items (verdicts block.items (ends block.id)) n (starts_of w block.id) x) one ∙
              (ap (λ (o : Option Item). wrong_over o (get_or (verdicts block.items (ends block.id)) k false)
              (wrong_at block.items (verdicts block.items (ends block.id)) k (starts_of w block.id)) x) stands ∙
              and_true (goes_on (exit_of i.kind)) _ (down_goes (exit_of i.kind) down) past)))
          | inr (n, e, out) ↦
              let there : Contains w.ids n = subst (λ (ns : List ℕ). Contains ns n) (sym names) (out_there (ids_of f.blocks) i.kind n target out) in
              ap (λ (r : Pos). wrong_of ends f (starts_of w) r x) e ∙ at_start n x there (to_start n there (inl (record {
                index = k;
                within = less block.items k i stands;
                item = i;
                stands = stands;
                out = out;
                wrong = past;
              })))
        ] where
          fetched : (paths_of f).fetch (pos_in block.id k) ≡ Here i
          fetched = ap (λ (bs : List Block). fetch_in bs k) begins ∙ ap (λ (is : List Item). front is block.source_end rest) (drop_at block.items k i stands)

          target : TargetsIn (ids_of f.blocks) i.kind
          target = all_at (λ (j : Item). TargetsIn (ids_of f.blocks) j.kind) block.items k i
              (subst (λ (is : List Item). All (λ (j : Item). TargetsIn (ids_of f.blocks) j.kind) is) (drop_none block.items)
              (all_below (λ (j : Item). TargetsIn (ids_of f.blocks) j.kind) f.blocks b block 0 sound.targets at)) stands

          less : (xs : List Item) (k : ℕ) (i : Item) → slice_get xs k ≡ Some i → k < length xs
          less [] k i e = absurd cc
          less (c ∷ cs) zero i e = omega arith
          less (c ∷ cs) (suc k) i e = let l : k < length cs = less cs k i e in omega arith

    pub past_end : length block.items ≤ k → wrong_at block.items (verdicts block.items (ends block.id)) k (starts_of w block.id) x ≡ true →
        (q : Pos) → Edge (paths_of f) (pos_in block.id k) q → wrong_of ends f (starts_of w) q x ≡ true
    past_end far e q edge = by_next rest is_rest (subst (λ (z : Fetch). FetchEdge Stays z (pos_in block.id k) q) fetched edge) where
      within : k ≤ length block.items
      within = at_within block.items (verdicts block.items (ends block.id)) k (starts_of w block.id) x e

      last : k ≡ length block.items
      last = omega (arith, within, far)

      none_left : (xs : List Item) (k : ℕ) → length xs ≤ k → drop k xs ≡ []
      none_left [] zero l = refl
      none_left [] (suc k) l = refl
      none_left (y ∷ ys) zero l = absurd (omega arith)
      none_left (y ∷ ys) (suc k) l = none_left ys k (omega arith)

      fetched : (paths_of f).fetch (pos_in block.id k) ≡ end_of block.source_end rest
      fetched = ap (λ (bs : List Block). fetch_in bs k) begins ∙ ap (λ (is : List Item). front is block.source_end rest) (none_left block.items k far)

      by_next : (bs : List Block) → bs ≡ drop (suc b) f.blocks → FetchEdge Stays (end_of block.source_end bs) (pos_in block.id k) q →
          wrong_of ends f (starts_of w) q x ≡ true
      by_next [] is h = absurd h
      by_next (c ∷ cs) is h =
          let one : b + 1 ≡ suc b = omega arith in
          let next : slice_get (ids_of f.blocks) (b + 1) ≡ Some c.id =
          ap (slice_get (ids_of f.blocks)) one ∙ (sym (next_of-drop f.blocks (suc b)) ∙ ap next_of (sym is)) in
          let there : Contains w.ids c.id = subst (λ (ns : List ℕ). Contains ns c.id) (sym names) (got_contains (ids_of f.blocks) (b + 1) c.id next) in
          ap (λ (r : Pos). wrong_of ends f (starts_of w) r x) h ∙ at_start c.id x there (to_start c.id there (inr (
            next,
            ap (λ (n : ℕ). wrong_at block.items (verdicts block.items (ends block.id)) n (starts_of w block.id) x) (sym last) ∙ e,
          )))

  -- from a position to the next
  goes_over : (x : Place) (p q : Pos) → Edge (paths_of f) p q →
      ((b : ℕ) (block : Block) (rest : List Block) → slice_get f.blocks b ≡ Some block → (begins : from_block f.blocks block.id ≡ block ∷ rest) →
      block.id ≡ p.block →
      ((i : Item) → slice_get block.items p.item ≡ Some i →
      wrong_past i.kind (get_or (verdicts block.items (ends block.id)) p.item false)
      (wrong_at block.items (verdicts block.items (ends block.id)) p.item (starts_of w block.id)) x ≡ true) ×
      (drop p.item block.items ≡ [] → wrong_at block.items (verdicts block.items (ends block.id)) p.item (starts_of w block.id) x ≡ true)) →
      wrong_of ends f (starts_of w) q x ≡ true
  goes_over x p q edge h = by_blocks (from_block f.blocks p.block) refl edge where
    by_blocks : (bs : List Block) → from_block f.blocks p.block ≡ bs → FetchEdge Stays (fetch_in bs p.item) p q → wrong_of ends f (starts_of w) q x ≡ true
    by_blocks [] g e = absurd e
    by_blocks (c ∷ cs) g e =
        let i = block_found f.blocks p.block c cs g in
        let begins : from_block f.blocks c.id ≡ c ∷ cs = ap (from_block f.blocks) i.1.id ∙ g in
        let mine : Edge (paths_of f) (pos_in c.id p.item) q = subst (λ (n : ℕ). Edge (paths_of f) (pos_in n p.item) q) (sym i.1.id) edge in
        let k = h i.0 c cs i.1.at begins i.1.id in
        by_rest i.0 i.1.at i.1.rest begins mine k.0 k.1 (drop p.item c.items) refl where
          by_rest : (b : ℕ) → slice_get f.blocks b ≡ Some c → cs ≡ drop (suc b) f.blocks → from_block f.blocks c.id ≡ c ∷ cs →
              Edge (paths_of f) (pos_in c.id p.item) q →
              ((i : Item) → slice_get c.items p.item ≡ Some i → wrong_past i.kind (get_or (verdicts c.items (ends c.id)) p.item false)
              (wrong_at c.items (verdicts c.items (ends c.id)) p.item (starts_of w c.id)) x ≡ true) →
              (drop p.item c.items ≡ [] → wrong_at c.items (verdicts c.items (ends c.id)) p.item (starts_of w c.id) x ≡ true) →
              (is : List Item) → drop p.item c.items ≡ is → wrong_of ends f (starts_of w) q x ≡ true
          by_rest b at r begins mine there none [] is =
              past_end x b c cs at r begins p.item (drop_past c.items p.item is) (none is) q mine
          by_rest b at r begins mine there none (j ∷ js) is =
              let stands = get_drop c.items p.item j js is in past_item x b c cs at r begins p.item j stands (there j stands) q mine

  -- all that is wrong is said
  all_said : (x : Place) (p : Pos) → IsWrongAt ends f x p → wrong_of ends f (starts_of w) p x ≡ true
  all_said x q (made p goes d edge) = goes_over x p q edge (λ b block rest at begins id. (
    λ i stands. (let place : pos_in block.id p.item ≡ p = ap (λ (n : ℕ). pos_in n p.item) id in
        wrong_made ends f block rest begins p.item i _ x stands (ap (is_dead_at ends f) place ∙ goes)
        (subst (λ (r : Pos). Defines ((paths_of f).fetch r) x) (sym place) d)),
    λ none. absurd (nothing_there block rest begins none id),
  )) where
    nothing_there : (block : Block) (rest : List Block) → from_block f.blocks block.id ≡ block ∷ rest → drop p.item block.items ≡ [] → block.id ≡ p.block → ⊥
    nothing_there block rest begins none id =
        let place : pos_in block.id p.item ≡ p = ap (λ (n : ℕ). pos_in n p.item) id in
        let fetched : (paths_of f).fetch (pos_in block.id p.item) ≡ end_of block.source_end rest =
        ap (λ (bs : List Block). fetch_in bs p.item) begins ∙ ap (λ (is : List Item). front is block.source_end rest) none in
        no_define rest (subst (λ (z : Fetch). Defines z x) fetched (subst (λ (r : Pos). Defines ((paths_of f).fetch r) x) (sym place) d)) where
          no_define : (bs : List Block) → Defines (end_of block.source_end bs) x → ⊥
          no_define [] h = h
          no_define (c ∷ cs) h = h
  all_said x q (on p before keeps edge) =
      let so_far = all_said x p before in
      goes_over x p q edge (λ b block rest at begins id.
      (let place : pos_in block.id p.item ≡ p = ap (λ (n : ℕ). pos_in n p.item) id in
      let here : wrong_at block.items (verdicts block.items (ends block.id)) p.item (starts_of w block.id) x ≡ true =
      sym (ap (λ (bs : List Block). wrong_in ends bs (starts_of w) p.item x) (ap (from_block f.blocks) (sym id) ∙ begins)) ∙ so_far in (
        λ i stands. wrong_on ends f block rest begins p.item i _ x stands here
            (λ stays d. keeps (sym (ap (is_dead_at ends f) place) ∙ stays) (subst (λ (r : Pos). Defines ((paths_of f).fetch r) x) place d)),
        λ none. here,
      )))

  pub exactly : (p : Pos) (x : Place) → (wrong_of ends f (starts_of w) p x ≡ true) ↔ IsWrongAt ends f x p
  exactly p x = (is_wrong p x, all_said x p)

-- the sets at first: nothing is found
pub begun : (slots ids : List ℕ) (f : Function) (dead : List (List Bool)) (starts : List (List ℕ)) → AllItems (λ i. SlotsIn slots i.kind) f.blocks →
    ids ≡ ids_of f.blocks → AreApart (ids_of f.blocks) → length starts ≡ length f.blocks →
    ((slots : List ℕ) (b : ℕ) (x : Place) → has slots (get_or starts b []) x ≡ false) → IsState slots ids f dead starts
begun slots ids f dead starts known names apart long none = record {
  known = known;
  names = names;
  apart = subst AreApart (sym names) apart;
  long = long;
  found = empty;
} where
  empty : AreFound slots ids f dead starts
  empty ends judged n x = by_index (index_in ids n) where
    by_index : (o : Option ℕ) → has slots (set_at starts o) x ≡ true → IsWrongAt ends f x (block_start n)
    by_index None e = let c : false ≡ true = sym (has_nothing slots x) ∙ e in absurd cc
    by_index (Some i) e = let c : false ≡ true = sym (none slots i x) ∙ e in absurd cc

pub solved : (f : Function) → IsSound f → (dead : List (List Bool)) (slots ids : List ℕ) (starts : List (List ℕ)) → slots ≡ f.slots →
    IsState slots ids f dead starts → ((b : ℕ) → b < length f.blocks → IsClosed slots ids f dead starts b) →
    AreStaleSets f dead (record { slots = slots; ids = ids; starts = starts })
solved f sound dead slots ids starts same s closed = record {
  slots = same;
  ids = s.names;
  apart = s.apart;
  long = s.long;
  exact = λ ends judged p x. exactly f sound dead (record { slots = slots; ids = ids; starts = starts }) s.names s.found closed ends judged p x;
}
