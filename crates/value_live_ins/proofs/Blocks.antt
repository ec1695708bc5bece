-- The flows of the blocks of a function with its frame are flows of it as it runs: from the start of a block each path goes on to
-- the blocks of its ways, and each path to a block comes from one of those that go there. The tokens at a way out are those past
-- all items of the block, since all is quiet past an item by which control leaves.
use Rattle.std.proofs.Common.{◌≡◌, ◌⊎◌, ℕ, zero, suc, ◌+◌, ◌<◌, ◌≤◌, List, [], ◌∷◌, drop, map, length, refl, sym, ap, ◌∙◌, subst, arith, inl, inr}
use Rattle.std.specs.Prelude.{Contains, Option, Some, None, option_to_list, slice_get}
use Rattle.std.proofs.lemmas.Option.{slice_get_within}
use Rattle.mir_func.specs.declared.position.Pos.{Pos}
use Rattle.mir_func.specs.declared.block.Block.{Block}
use Rattle.mir_func.specs.declared.debug_substitution.OperandPair.{OperandPair}
use Rattle.mir_func.specs.declared.item.Item.{Item}
use Rattle.mir_func.specs.Exits.{exit_of}
use Rattle.mir_func.specs.Graph.{Program, Fetch, Here, EndOfBlock, Outside, block_start, end_of, front, fetch_in, framed_program, Edge, FetchEdge}
use Rattle.mir_func.specs.Sound.{ids_of}
use Rattle.mir_func.specs.Successors.{pos_in, ways}
use Rattle.mir_func.proofs.Ways.{out_way, contains_first}
use Rattle.sem_mir.specs.ValueId.{Tokens, Path, begin, onward, after_fetch, after_item}
use Rattle.sem_value_ids.specs.Pullback.{InRegister, token_of, after_items}
use Rattle.sem_value_ids.specs.Pullback as path
use Rattle.value_proof.specs.PreferredByClass.{AreEnoughFor}
use Rattle.value_proof.proofs.Known.{path_bare, pointer}
use Rattle.value_solver.specs.declared.tracked.Tracked.{Tracked}
use Rattle.value_solver.specs.Entry.{thing, PathTo}
use Rattle.value_solver.specs.declared.flow.Flow.{Flow}
use Rattle.value_solver.specs.Flows.{thing_token, token_at, Begins, Comes, GoesOn, AreFlows}
use Rattle.value_live_ins.specs.steps.Flowing.{next_id, AreFlowsOf}
use Rattle.value_live_ins.proofs.Paths.{EndsQuietly, head_id, go_out, from_start, quiet_out, kind_out}

-- ---- blocks by their indices

head_id-drop : (blocks : List Block) (i : ℕ) → head_id (drop i blocks) ≡ slice_get (ids_of blocks) i
head_id-drop [] zero = refl
head_id-drop [] (suc i) = refl
head_id-drop (b ∷ bs) zero = refl
head_id-drop (b ∷ bs) (suc i) = head_id-drop bs i

-- what stands at the positions of a block
pub fetched : (blocks : List Block) (b : ℕ) (block : Block) → slice_get blocks b ≡ Some block → (k : ℕ) →
    fetch_in (drop b blocks) k ≡ front (drop k block.items) block.source_end (drop (suc b) blocks)
fetched [] b block e k = absurd cc
fetched (x ∷ xs) zero block e k = let is : x ≡ block = cc in ap (λ (z : Block). front (drop k z.items) z.source_end xs) is
fetched (x ∷ xs) (suc b) block e k = fetched xs b block e k

-- past the last block nothing stands
outside : (blocks : List Block) (b : ℕ) → slice_get blocks b ≡ None → (k : ℕ) → fetch_in (drop b blocks) k ≡ Outside
outside [] zero e k = refl
outside [] (suc b) e k = refl
outside (x ∷ xs) zero e k = absurd cc
outside (x ∷ xs) (suc b) e k = outside xs b e k

-- what isn't there is past the end
pub past : {A : Type 0} (xs : List A) (k : ℕ) → slice_get xs k ≡ None → length xs ≤ k
past [] k e = omega arith
past (x ∷ xs) zero e = absurd cc
past (x ∷ xs) (suc k) e = let h = past xs k e in omega (arith, h)

-- what is one of a list's images comes from one of the list
pub contains_map : (f : ℕ → ℕ) (ns : List ℕ) (c : ℕ) → Contains (map f ns) c → (n : ℕ) × Contains ns n × (c ≡ f n)
contains_map f [] c (k, l, e) = absurd (let none : k < 0 = l in omega (arith, none))
contains_map f (n ∷ ns) c (zero, l, e) = (n, (zero, omega arith, refl), sym e)
contains_map f (n ∷ ns) c (suc k, l, e) =
    let less : suc k < suc (length (map f ns)) = l in
    let (m, (j, lt, at), is) = contains_map f ns c (k, omega (arith, less), e) in
    (m, (suc j, omega (arith, lt), at), is)

map_contains : (f : ℕ → ℕ) (ns : List ℕ) (n : ℕ) → Contains ns n → Contains (map f ns) (f n)
map_contains f [] n (k, l, e) = absurd (let none : k < 0 = l in omega (arith, none))
map_contains f (m ∷ ns) n (zero, l, e) = (zero, omega arith, ap f e)
map_contains f (m ∷ ns) n (suc k, l, e) =
    let less : suc k < suc (length ns) = l in
    let (j, lt, at) = map_contains f ns n (k, omega (arith, less), e) in
    (suc j, omega (arith, lt), at)

-- ---- tokens of things

token_same : (xs : List Tracked) (t u : Tokens) → ((x : path.Tracked) → token_of x t ≡ token_of x u) → (x : ℕ) → token_at xs x t ≡ token_at xs x u
token_same xs t u same zero = refl
token_same xs t u same (suc i) = by_thing (slice_get xs i) where
  by_thing : (o : Option Tracked) → thing_token o t ≡ thing_token o u
  by_thing None = refl
  by_thing (Some x) = same (thing x)

-- ---- the flows of blocks are flows

module _ (blocks : List Block) (resolve : OperandPair → Option OperandPair) (xs : List Tracked) (flows : List Flow) where
  abbrev g : Program
  g = framed_program blocks resolve

  module _ (are : AreEnoughFor g (map thing xs)) (of : AreFlowsOf g blocks xs flows)
      (quiet : (b : ℕ) (block : Block) → slice_get blocks b ≡ Some block → EndsQuietly block.items) where
    bare : (b n : ℕ) (t : Tokens) → PathTo g b n t → token_of (InRegister 2) t ≡ None
    bare b n t p = path_bare g (map thing xs) are p (InRegister 2) pointer

    block_of : (b : ℕ) (f : Flow) → slice_get flows b ≡ Some f → (block : Block) × (slice_get blocks b ≡ Some block)
    block_of b f at = by_block (slice_get blocks b) refl where
      by_block : (o : Option Block) → slice_get blocks b ≡ o → (block : Block) × (slice_get blocks b ≡ Some block)
      by_block (Some block) e = (block, e)
      by_block None e =
          let lt = slice_get_within flows b f at in
          let far = past blocks b e in
          absurd (omega (arith, lt, far, of.long))

    goes_on : (b c n : ℕ) (t : Tokens) (f : Flow) → PathTo g b n t → slice_get flows b ≡ Some f → Contains f.ways c → GoesOn g xs n t f c
    goes_on b c n t f p at way =
        let (block, here) = block_of b f at in
        let flow = of.each b block f here at in
        let (m, among, is) = contains_map g.enter (ways block.items (next_id blocks b)) c (subst (λ (z : List ℕ). Contains z c) flow.ways way) in
        let next = head_id-drop blocks (suc b) in
        let out = go_out g b 0 n t block.items block.source_end (drop (suc b) blocks) m p (shows b block here) (quiet b block here)
        (subst (λ (z : Option ℕ). Contains (ways block.items z) m) (sym next) among) in
        record {
          steps = out.steps;
          tokens = out.tokens;
          path = subst (λ (z : ℕ). PathTo g z out.steps out.tokens) (sym is) out.path;
          told = λ x. token_same xs out.tokens (after_items resolve n block.items t) out.same x ∙ flow.tells.each n t (bare b n t p) x;
        } where
          shows : (b : ℕ) (block : Block) → slice_get blocks b ≡ Some block → (k : ℕ) →
              g.fetch (pos_in b (0 + k)) ≡ front (drop k block.items) block.source_end (drop (suc b) blocks)
          shows b block here k =
              let e : 0 + k ≡ k = omega arith in
              ap (λ (z : ℕ). fetch_in (drop b blocks) z) e ∙ fetched blocks b block here k

    -- a way out of a block, and the tokens there
    record ComesOut (b k m : ℕ) (u : Tokens) (items : List Item) (c : ℕ) : Type 0 where
      number : ℕ
      enters : c ≡ g.enter number
      way : Contains (ways (drop k items) (next_id blocks b)) number
      same : (x : path.Tracked) → token_of x (after_fetch resolve m (g.fetch (pos_in b k)) u) ≡ token_of x (after_items resolve m (drop k items) u)

    drop_quiet : (k : ℕ) (items : List Item) → EndsQuietly items → EndsQuietly (drop k items)
    drop_quiet zero items q = q
    drop_quiet (suc k) [] q = q
    drop_quiet (suc k) (i ∷ items) q = drop_quiet k items q.1

    comes_out : (b k m : ℕ) (u : Tokens) (block : Block) (c : ℕ) → slice_get blocks b ≡ Some block → Edge g (pos_in b k) (block_start c) →
        ComesOut b k m u block.items c
    comes_out b k m u block c here edge = by_rest (drop k block.items) refl (drop (suc b) blocks) refl where
      shown : g.fetch (pos_in b k) ≡ front (drop k block.items) block.source_end (drop (suc b) blocks)
      shown = fetched blocks b block here k

      by_end : (bs : List Block) → drop (suc b) blocks ≡ bs → drop k block.items ≡ [] →
          FetchEdge g.enter (end_of block.source_end bs) (pos_in b k) (block_start c) →
          ComesOut b k m u block.items c
      by_end [] e none edge = absurd edge
      by_end (next ∷ bs) e none edge =
          let after : next_id blocks b ≡ Some next.id = sym (head_id-drop blocks (suc b)) ∙ ap head_id e in
          let fetch : g.fetch (pos_in b k) ≡ EndOfBlock block.source_end next.id = shown ∙ ((λ i. front (none i) block.source_end (e i))) in
          record {
            number = next.id;
            enters = ap (λ (z : Pos). z.block) edge;
            way = subst (λ (z : List Item). Contains (ways z (next_id blocks b)) next.id) (sym none)
                (subst (λ (z : Option ℕ). Contains (option_to_list z) next.id) (sym after) (contains_first next.id next.id [] refl));
            same = λ x. ap (λ (z : Fetch). token_of x (after_fetch resolve m z u)) fetch
                ∙ ap (λ (z : List Item). token_of x (after_items resolve m z u)) (sym none);
          }

      by_rest : (rest : List Item) → drop k block.items ≡ rest → (bs : List Block) → drop (suc b) blocks ≡ bs → ComesOut b k m u block.items c
      by_rest [] e bs at =
          by_end bs at e (subst (λ (z : Fetch). FetchEdge g.enter z (pos_in b k) (block_start c)) (shown ∙ (λ i. front (e i) block.source_end (at i))) edge)
      by_rest (i ∷ rest) e bs at =
          let fetch : g.fetch (pos_in b k) ≡ Here i = shown ∙ ap (λ (z : List Item). front z block.source_end (drop (suc b) blocks)) e in
          let (n, out, is) = kind_out g.enter (pos_in b k) i.kind c (subst (λ (z : Fetch). FetchEdge g.enter z (pos_in b k) (block_start c)) fetch edge) in
          let q = subst EndsQuietly e (drop_quiet k block.items (quiet b block here)) in
          let still = quiet_out (exit_of i.kind) n rest out q.0 in
          record {
            number = n;
            enters = is;
            way = subst (λ (z : List Item). Contains (ways z (next_id blocks b)) n) (sym e) (out_way (exit_of i.kind) n (ways rest (next_id blocks b)) out);
            same = λ x. ap (λ (z : Fetch). token_of x (after_fetch resolve m z u)) fetch
                ∙ sym (still.keeps resolve (suc m) (after_item resolve m i.kind u) x)
                ∙ ap (λ (z : List Item). token_of x (after_items resolve m z u)) (sym e);
          }

    flow_at : (b : ℕ) (block : Block) → slice_get blocks b ≡ Some block → (f : Flow) × (slice_get flows b ≡ Some f)
    flow_at b block here = by_flow (slice_get flows b) refl where
      by_flow : (o : Option Flow) → slice_get flows b ≡ o → (f : Flow) × (slice_get flows b ≡ Some f)
      by_flow (Some f) e = (f, e)
      by_flow None e =
          let lt = slice_get_within blocks b block here in
          let far = past flows b e in
          absurd (omega (arith, lt, far, of.long))

    comes_from : (b k m c : ℕ) (u : Tokens) → Path g (block_start 0) m (pos_in b k) u → Edge g (pos_in b k) (block_start c) →
        Comes g xs flows c (suc m) (after_fetch resolve m (g.fetch (pos_in b k)) u)
    comes_from b k m c u p edge = by_block (slice_get blocks b) refl where
      by_block : (o : Option Block) → slice_get blocks b ≡ o → Comes g xs flows c (suc m) (after_fetch resolve m (g.fetch (pos_in b k)) u)
      by_block None e = absurd (subst (λ (z : Fetch). FetchEdge g.enter z (pos_in b k) (block_start c)) (outside blocks b e k) edge)
      by_block (Some block) here =
          let (f, at) = flow_at b block here in
          let flow = of.each b block f here at in
          let out = comes_out b k m u block c here edge in
          let next = head_id-drop blocks (suc b) in
          let start = from_start g b k m u block.items block.source_end (drop (suc b) blocks) (fetched blocks b block here) p in
          let among : Contains (ways block.items (next_id blocks b)) out.number =
          subst (λ (z : Option ℕ). Contains (ways block.items z) out.number) next
          (start.down out.number (subst (λ (z : Option ℕ). Contains (ways (drop k block.items) z) out.number) (sym next) out.way)) in
          record {
            block = b;
            steps = start.steps;
            tokens = start.tokens;
            flow = f;
            path = start.path;
            here = at;
            way = subst (λ (z : List ℕ). Contains z c) (sym flow.ways)
                (subst (λ (z : ℕ). Contains (map g.enter (ways block.items (next_id blocks b))) z) (sym out.enters)
                (map_contains g.enter (ways block.items (next_id blocks b)) out.number among));
            fewer = omega (arith, start.count);
            told = λ x. token_same xs (after_fetch resolve m (g.fetch (pos_in b k)) u) (after_items resolve start.steps block.items start.tokens)
                (λ y. out.same y ∙ ap (token_of y) start.same) x
                ∙ flow.tells.each start.steps start.tokens (bare b start.steps start.tokens start.path) x;
          }

    comes_back : (c m : ℕ) (q : Pos) (u : Tokens) → q ≡ block_start c → Path g (block_start 0) m q u → Begins xs c u ⊎ Comes g xs flows c m u
    comes_back c m q u at begin = inl (sym (ap (λ (z : Pos). z.block) at), λ x. refl)
    comes_back c m q u at (onward {n = n} {p = p} {t = t} path edge) =
        inr (comes_from p.block p.item n c t path (subst (λ (z : Pos). Edge g p z) at edge))

    pub flows_are : AreFlows g xs flows
    flows_are = record {
      onward = goes_on;
      back = λ c m u p. comes_back c m (block_start c) u refl p;
    }
