-- A block is reached by ways just where a path leads to its start.
use Rattle.std.proofs.Common.{◌≡◌, ◌⊎◌, ℕ, zero, suc, ◌+◌, ◌<◌, List, [], ◌∷◌, drop, slice_get, get_or, All, Option, Some}
use Rattle.std.proofs.Common.{false, refl, sym, ap, ◌∙◌, subst, inl, inr, arith}
use Rattle.std.proofs.lemmas.Bool.{cases_order}
use Rattle.std.proofs.lemmas.List.Elements.{All-contains}
use Rattle.std.proofs.lemmas.Option.{slice_get-get_or}
use Rattle.rv64_instr.specs.Row.{Row, Branches, Jumps, Returns, Unfit, row_of}
use Rattle.mir_func.specs.declared.block.Block.{Block}
use Rattle.mir_func.specs.declared.debug_substitution.OperandPair.{OperandPair}
use Rattle.mir_func.specs.declared.exit.Exit.{Exit}
use Rattle.mir_func.specs.declared.exit.Exit.TheVariants.{Onward, Perhaps, Always, Final}
use Rattle.mir_func.specs.declared.item.Item.{Item}
use Rattle.mir_func.specs.declared.item.ItemKind.{ItemKind}
use Rattle.mir_func.specs.declared.item.ItemKind.TheVariants.{Code, Mark, Phi}
use Rattle.mir_func.specs.declared.position.Pos.{Pos}
use Rattle.mir_func.specs.Exits.{row_exit, exit_of, Leaves}
use Rattle.mir_func.specs.Function.{Function}
use Rattle.mir_func.specs.Graph.{Program, Fetch, Here, EndOfBlock, Outside, below, block_start, front, fetch_in, from_block, program_of}
use Rattle.mir_func.specs.Graph.{RowEdge, KindEdge, FetchEdge, Edge, Leads as LeadsFrom, stay, go}
use Rattle.mir_func.specs.Sound.{EndsWell, LastCloses, IsSound}
use Rattle.sem_mir.specs.InitialState.{first_of as first_number}
use Rattle.sem_mir.proofs.Reading.{found_in, item_front}
use Rattle.fold_targets.specs.Leads.{first_id}
use Rattle.fold_rule.specs.declared.ways.Ways.{Ways}
use Rattle.fold_rule.specs.Tails.{first_of, else_way, ways_by, ways_of}
use Rattle.fold_rule.specs.Reached.{LeadTo, Reached, first, onward}
use Rattle.fold_rule_proof.proofs.KillSound.{contains_at}
use Rattle.fold_proof.proofs.Placed.{end_first}
use Rattle.fold_proof.proofs.Ways.{always_is, ways_at, ways_found}
use Rattle.fold_proof.proofs.Back.{item_leads, falls_on}
use Rattle.fold_proof.proofs.Paths.{edge_item, stands_in, EndsIn, ends_in}

-- ---- edges

edge_to : (k : ItemKind) (p : Pos) (n : ℕ) → (exit_of k ≡ Perhaps n) ⊎ (exit_of k ≡ Always n) → KindEdge (λ m. m) k p (block_start n)
edge_to (Code i m) p n h = by_row (row_of i) h where
  by_row : (r : Row) → (row_exit r ≡ Perhaps n) ⊎ (row_exit r ≡ Always n) → RowEdge (λ m. m) r p (block_start n)
  by_row (Branches op a b t) (inl e) = let same : t ≡ n = cc in inl (ap block_start (sym same))
  by_row (Branches op a b t) (inr e) = cc
  by_row (Jumps t) (inl e) = cc
  by_row (Jumps t) (inr e) = let same : t ≡ n = cc in ap block_start (sym same)
  by_row _ (inl e) = cc
  by_row _ (inr e) = cc
edge_to (Mark v m) p n (inl e) = cc
edge_to (Mark v m) p n (inr e) = cc
edge_to (Phi r m) p n (inl e) = cc
edge_to (Phi r m) p n (inr e) = cc

edge_past : (k : ItemKind) (p : Pos) → exit_of k ≡ Onward → KindEdge (λ m. m) k p (below p)
edge_past (Code i m) p h = by_row (row_of i) h where
  by_row : (r : Row) → row_exit r ≡ Onward → RowEdge (λ m. m) r p (below p)
  by_row (Branches op a b t) e = cc
  by_row (Jumps t) e = cc
  by_row (Returns v) e = cc
  by_row Unfit e = cc
  by_row _ e = refl
edge_past (Mark v m) p h = refl
edge_past (Phi r m) p h = refl

edge_else : (k : ItemKind) (p : Pos) (t : ℕ) → exit_of k ≡ Perhaps t → KindEdge (λ m. m) k p (below p)
edge_else (Code i m) p t h = by_row (row_of i) h where
  by_row : (r : Row) → row_exit r ≡ Perhaps t → RowEdge (λ m. m) r p (below p)
  by_row (Branches op a b n) e = inr refl
  by_row _ e = cc
edge_else (Mark v m) p t h = cc
edge_else (Phi r m) p t h = cc

lead_on : {g : Program} {p q r : Pos} → LeadsFrom g p q → LeadsFrom g q r → LeadsFrom g p r
lead_on stay h = h
lead_on (go e rest) h = go e (lead_on rest h)

drop_none : (xs : List Item) → drop 0 xs ≡ xs
drop_none [] = refl
drop_none (x ∷ xs) = refl

drop_next : (xs : List Item) (k : ℕ) (x : Item) (ys : List Item) → drop k xs ≡ x ∷ ys → drop (k + 1) xs ≡ ys
drop_next [] zero x ys e = cc
drop_next [] (suc k) x ys e = cc
drop_next (z ∷ zs) zero x ys e = let tail : zs ≡ ys = cc in drop_none zs ∙ tail
drop_next (z ∷ zs) (suc k) x ys e =
    let next : suc k + 1 ≡ suc (k + 1) = omega arith in
    ap (λ (m : ℕ). drop m (z ∷ zs)) next ∙ drop_next zs k x ys e

module _ (f : Function) (sound : IsSound f) (resolve : OperandPair → Option OperandPair) where
  abbrev old : List Block
  old = f.blocks

  abbrev fp : Program
  fp = program_of false old resolve

  abbrev start : Pos
  start = block_start (first_number old)

  abbrev Was : ℕ → Type 0
  Was n = Reached old (λ m. m) n

  -- ---- from ways to paths

  module _ (b : ℕ) (block : Block) (rest : List Block) (at : from_block old b ≡ block ∷ rest) where
    abbrev place : ℕ → Pos
    place k = record { block = b; item = k }

    here_at : (k : ℕ) (x : Item) (xs : List Item) → drop k block.items ≡ x ∷ xs → fp.fetch (place k) ≡ Here x
    here_at k x xs e = ap (λ (z : List Block). fetch_in z k) at ∙ ap (λ (z : List Item). front z block.source_end rest) e

    end_at : (k n : ℕ) → drop k block.items ≡ [] → first_id rest ≡ Some n → fp.fetch (place k) ≡ EndOfBlock block.source_end n
    end_at k n e next =
        ap (λ (z : List Block). fetch_in z k) at ∙ ap (λ (z : List Item). front z block.source_end rest) e ∙ end_first block.source_end rest n next

    step_to : (k : ℕ) (x : Item) (xs : List Item) (q : Pos) → drop k block.items ≡ x ∷ xs → KindEdge (λ m. m) x.kind (place k) q → Edge fp (place k) q
    step_to k x xs q e edge = subst (λ (z : Fetch). FetchEdge (λ m. m) z (place k) q) (sym (here_at k x xs e)) edge

    falls : (k n : ℕ) → drop k block.items ≡ [] → first_id rest ≡ Some n → LeadsFrom fp (place k) (block_start n)
    falls k n e next = go (subst (λ (z : Fetch). FetchEdge (λ m. m) z (place k) (block_start n)) (sym (end_at k n e next)) refl) stay

    along : (xs : List Item) (k n : ℕ) → drop k block.items ≡ xs → LeadTo (ways_of xs (first_id rest)) n → LeadsFrom fp (place k) (block_start n)
    along [] k n e (inl h) = cc
    along [] k n e (inr h) = falls k n e h
    along (x ∷ xs) k n e l = by_exit (exit_of x.kind) refl l (λ h. along xs (k + 1) n (drop_next block.items k x xs e) h) where
      by_exit : (q : Exit) → exit_of x.kind ≡ q → LeadTo (ways_by q (first_of xs) (ways_of xs (first_id rest)) (first_id rest)) n →
          (LeadTo (ways_of xs (first_id rest)) n → LeadsFrom fp (place (k + 1)) (block_start n)) → LeadsFrom fp (place k) (block_start n)
      by_exit Onward h l later = go (step_to k x xs (place (k + 1)) e (edge_past x.kind (place k) h)) (later l)
      by_exit (Perhaps t) h (inl w) later =
          let same : t ≡ n = cc in
          go (step_to k x xs (block_start n) e (edge_to x.kind (place k) n (inl (h ∙ ap Perhaps same)))) stay
      by_exit (Perhaps t) h (inr w) later =
          go (step_to k x xs (place (k + 1)) e (edge_else x.kind (place k) t h)) (by_rest xs (drop_next block.items k x xs e) w) where
            by_rest : (ys : List Item) → drop (k + 1) block.items ≡ ys → else_way (first_of ys) (first_id rest) ≡ Some n →
                LeadsFrom fp (place (k + 1)) (block_start n)
            by_rest [] d w = falls (k + 1) n d w
            by_rest (j ∷ ys) d w =
                go (step_to (k + 1) j ys (block_start n) d (edge_to j.kind (place (k + 1)) n (inr (always_is (exit_of j.kind) n w)))) stay
      by_exit (Always t) h (inl w) later = cc
      by_exit (Always t) h (inr w) later =
          let same : t ≡ n = cc in
          go (step_to k x xs (block_start n) e (edge_to x.kind (place k) n (inr (h ∙ ap Always same)))) stay
      by_exit Final h (inl w) later = cc
      by_exit Final h (inr w) later = cc

  first_is : (n : ℕ) → first_id old ≡ Some n → first_number old ≡ n
  first_is n e = by_blocks old e where
    by_blocks : (bs : List Block) → first_id bs ≡ Some n → first_number bs ≡ n
    by_blocks [] e = cc
    by_blocks (b ∷ bs) e = cc

  pub reached_leads : {n : ℕ} → Was n → LeadsFrom fp start (block_start n)
  reached_leads (first {n} e) = subst (λ (m : ℕ). LeadsFrom fp start (block_start m)) (first_is n e) stay
  reached_leads (onward {b} {n} w r e l) =
      let found = ways_found old b w e in
      lead_on (reached_leads r) (along b found.0.block found.0.rest found.0.at found.0.block.items 0 n (drop_none found.0.block.items)
      (subst (λ (z : Ways). LeadTo z n) found.1 l))

  -- ---- from paths to ways

  -- a path may come to the position: its block is reached, and control goes on past the items above it
  record Down (p : Pos) : Type 0 where
    reached : Was p.block
    open_above : (k : ℕ) (i : Item) → k < p.item → fp.fetch (record { block = p.block; item = k }) ≡ Here i → Leaves (exit_of i.kind) → ⊥

  down_start : (n : ℕ) → Was n → Down (block_start n)
  down_start n r = record { reached = r; open_above = λ k i lt at l. absurd (omega (arith, lt)) }

  well : (n : ℕ) (block : Block) (rest : List Block) → from_block old n ≡ block ∷ rest → EndsWell block.items
  well n block rest at = All-contains (λ (b : Block). EndsWell b.items) old block sound.ends (found_in old n block rest at).0

  down_below : (p : Pos) (i : Item) → Down p → fp.fetch p ≡ Here i → (Leaves (exit_of i.kind) → ⊥) → Down (below p)
  down_below p i down at opens = record {
    reached = down.reached;
    open_above = λ k j lt here leaves. by_order k j (cases_order k p.item) lt here leaves;
  } where
    by_order : (k : ℕ) (j : Item) → (k ≡ p.item) ⊎ ((k < p.item) ⊎ (p.item < k)) → k < p.item + 1 →
        fp.fetch (record { block = p.block; item = k }) ≡ Here j → Leaves (exit_of j.kind) → ⊥
    by_order k j (inl e) lt here leaves =
        let there : Here j ≡ Here i = sym here ∙ ap (λ (m : ℕ). fp.fetch (record { block = p.block; item = m })) e ∙ at in
        let same : j ≡ i = cc in
        opens (subst (λ (z : Item). Leaves (exit_of z.kind)) same leaves)
    by_order k j (inr (inl less)) lt here leaves = down.open_above k j less here leaves
    by_order k j (inr (inr more)) lt here leaves = absurd (omega (arith, lt, more))

  went_to : (p : Pos) (i : Item) (n : ℕ) → Down p → fp.fetch p ≡ Here i → (exit_of i.kind ≡ Perhaps n) ⊎ (exit_of i.kind ≡ Always n) → Was n
  went_to p i n down at e =
      let s = stands_in false old resolve p i at in
      onward {b = p.block} {n = n} (ways_of s.block.items (first_id s.rest)) down.reached (ways_at old p.block s.block s.rest s.at)
      (item_leads s.block.items (first_id s.rest) i n (well p.block s.block s.rest s.at) (contains_at s.block.items p.item i s.item) e)

  fell_to : (p : Pos) (k n : ℕ) → Down p → fp.fetch p ≡ EndOfBlock k n → Was n
  fell_to p k n down at =
      let s = ends_in false old resolve p k n at in
      onward {b = p.block} {n = n} (ways_of s.block.items (first_id s.rest)) down.reached (ways_at old p.block s.block s.rest s.at)
      (subst (λ (o : Option ℕ). LeadTo (ways_of s.block.items o) n) (sym s.next)
      (falls_on s.block.items n (well p.block s.block s.rest s.at) (open_items s))) where
        open_items : (s : EndsIn old p n) → All (λ (i : Item). Leaves (exit_of i.kind) → ⊥) s.block.items
        open_items s d e lt leaves =
            let j = get_or s.block.items d e in
            let here : fp.fetch (record { block = p.block; item = d }) ≡ Here j = ap (λ (z : List Block). fetch_in z d) s.at ∙
            item_front s.block.items d s.block.source_end s.rest j (slice_get-get_or s.block.items d e lt) in
            let past = s.past in
            down.open_above d j (omega (arith, lt, past)) here leaves

  down_edge : (p q : Pos) → Down p → Edge fp p q → Down q
  down_edge p q down edge = by_fetch (fp.fetch p) refl edge where
    by_item : (i : Item) → fp.fetch p ≡ Here i →
        ((n : ℕ) × ((exit_of i.kind ≡ Perhaps n) ⊎ (exit_of i.kind ≡ Always n)) × (q ≡ block_start n)) ⊎ ((Leaves (exit_of i.kind) → ⊥) × (q ≡ below p)) →
        Down q
    by_item i at (inl w) = subst Down (sym w.2) (down_start w.0 (went_to p i w.0 down at w.1))
    by_item i at (inr w) = subst Down (sym w.1) (down_below p i down at w.0)

    by_fetch : (x : Fetch) → fp.fetch p ≡ x → FetchEdge (λ n. n) x p q → Down q
    by_fetch (Here i) at e = by_item i at (edge_item i.kind p q e)
    by_fetch (EndOfBlock k n) at e = subst Down (sym e) (down_start n (fell_to p k n down at))
    by_fetch Outside at e = absurd e

  down_path : {p q : Pos} → LeadsFrom fp p q → Down p → Down q
  down_path stay down = down
  down_path (go {p} {q} e rest) down = down_path rest (down_edge p q down e)

  first_was : Was (first_number old)
  first_was = by_blocks old refl sound.last where
    by_blocks : (bs : List Block) → old ≡ bs → LastCloses bs → Was (first_number old)
    by_blocks [] e l = absurd l
    by_blocks (b ∷ bs) e l = first (ap first_id e ∙ ap (λ (n : ℕ). Some n) (sym (ap first_number e)))

  pub leads_reached : (n : ℕ) → LeadsFrom fp start (block_start n) → Was n
  leads_reached n path = (down_path path (down_start (first_number old) first_was)).reached
