-- With a slot store at a block's end goes other code, in the folded function too: its paths are those of the function before,
-- from one end of a way to the next.
use Rattle.std.proofs.Common.{◌≡◌, ◌⊎◌, ℕ, zero, suc, ◌+◌, ◌<◌, ◌≤◌, List, [], ◌∷◌, ◌++◌, drop, length, slice_get, All, Contains, Option, Some, None}
use Rattle.std.proofs.Common.{Bool, true}
use Rattle.std.proofs.Common.{false, cond, nat_eq, refl, sym, ap, ◌∙◌, subst, inl, inr, arith}
use Rattle.std.proofs.lemmas.Bool.{eqb-true, cases_eq}
use Rattle.std.proofs.lemmas.List.Elements.{All-contains, All-head, All-tail}
use Rattle.std.proofs.lemmas.Option.{slice_get_within}
use Rattle.rv64_instr.specs.Row.{Row, Branches, Jumps, Returns, Unfit, row_of}
use Rattle.mir_func.specs.declared.block.Block.{Block}
use Rattle.mir_func.specs.declared.exit.Exit.{Exit}
use Rattle.mir_func.specs.declared.exit.Exit.TheVariants.{Onward, Perhaps, Always, Final}
use Rattle.mir_func.specs.declared.item.Item.{Item}
use Rattle.mir_func.specs.declared.item.ItemKind.{ItemKind}
use Rattle.mir_func.specs.declared.item.ItemKind.TheVariants.{Code, Mark, Phi}
use Rattle.mir_func.specs.declared.position.Pos.{Pos}
use Rattle.mir_func.specs.Exits.{row_exit, exit_of, IsAlways, Leaves}
use Rattle.mir_func.specs.Graph.{Program, Fetch, Here, EndOfBlock, Outside, below, block_start, fetch_in, from_block, RowEdge, KindEdge, FetchEdge, Edge}
use Rattle.mir_func.specs.Graph.{Leads as LeadsFrom, stay, go, rest_in, rest_of}
use Rattle.mir_func.specs.Sound.{IsJumpAtMost, MayFollow, EndsWell, Closes}
use Rattle.sem_mir.specs.Follow.{OnRow, Counts}
use Rattle.sem_mir.proofs.Edges.{leads_on}
use Rattle.sem_mir.proofs.Reading.{found_in, item_front}
use Rattle.sem_simulation.proofs.Laid.{laid_out}
use Rattle.fold_targets.specs.Ways.{EndsAt, leads_nowhere, comes_round, goes_on}
use Rattle.fold_targets.specs.Leads.{first_id, always_to, lead_by, lead_of, lead}
use Rattle.fold_targets.proofs.Ways.{one_end}
use Rattle.fold_rule.specs.Turned.{sent, turned}
use Rattle.fold_rule.specs.Tails.{first_of, else_way, ways_by, ways_of, is_number, if_needed, jump_at_end, jump_for_branch, plain_tail}
use Rattle.fold_rule.specs.Tails.{branch_tail_to, tail_by, rewritten}
use Rattle.fold_rule.specs.Reached.{LeadTo, onward}
use Rattle.fold_rule.specs.Rule.{staying}
use Rattle.fold_rule_proof.proofs.Rows.{sent_branch, turned_branch, sent_jump}
use Rattle.fold_rule_proof.proofs.Tails.{goes_else, jump_exit}
use Rattle.fold_rule_proof.specs.Kills.{kills}
use Rattle.fold_rule_proof.proofs.Kills.{IsKill, each_kill}
use Rattle.fold_proof.proofs.Placed.{falls_from, made_block, made, made_at, made_first}
use Rattle.fold_proof.proofs.Ways.{always_is, lead_at}
use Rattle.fold_proof.proofs.Folding.{Folding, old, end, stays, was, new, fp, gp, ends}
use Rattle.fold_proof.proofs.Paths.{edge_item, ends_in}

branch_edge : (k : ItemKind) (n : ℕ) (p : Pos) → exit_of k ≡ Perhaps n → KindEdge (λ m. m) k p (block_start n) × KindEdge (λ m. m) k p (below p)
branch_edge (Code i m) n p e = by_row (row_of i) e where
  by_row : (r : Row) → row_exit r ≡ Perhaps n → RowEdge (λ m. m) r p (block_start n) × RowEdge (λ m. m) r p (below p)
  by_row (Branches op a b t) e = let same : t ≡ n = cc in (inl (ap block_start (sym same)), inr refl)
  by_row _ e = cc
branch_edge (Mark v m) n p e = cc
branch_edge (Phi r m) n p e = cc

jump_edge : (k : ItemKind) (n : ℕ) (p : Pos) → exit_of k ≡ Always n → KindEdge (λ m. m) k p (block_start n)
jump_edge (Code i m) n p e = by_row (row_of i) e where
  by_row : (r : Row) → row_exit r ≡ Always n → RowEdge (λ m. m) r p (block_start n)
  by_row (Jumps t) e = let same : t ≡ n = cc in ap block_start (sym same)
  by_row _ e = cc
jump_edge (Mark v m) n p e = cc
jump_edge (Phi r m) n p e = cc

pass_edge : (k : ItemKind) (p : Pos) → exit_of k ≡ Onward → KindEdge (λ m. m) k p (below p)
pass_edge (Code i m) p e = by_row (row_of i) e where
  by_row : (r : Row) → row_exit r ≡ Onward → RowEdge (λ m. m) r p (below p)
  by_row (Branches op a b t) e = cc
  by_row (Jumps t) e = cc
  by_row (Returns v) e = cc
  by_row Unfit e = cc
  by_row _ e = refl
pass_edge (Mark v m) p e = refl
pass_edge (Phi r m) p e = refl

edge_at : (g : Program) (p q : Pos) (x : Item) → g.fetch p ≡ Here x → KindEdge g.enter x.kind p q → Edge g p q
edge_at g p q x at e = subst (λ (z : Fetch). FetchEdge g.enter z p q) (sym at) e

is_next : (next : Option ℕ) (n : ℕ) → is_number next n ≡ true → next ≡ Some n
is_next None n e = cc
is_next (Some m) n e = ap (λ (z : ℕ). Some z) (eqb-true m n e)

-- ---- the end of a block that stays leads to the ends of its ways

module _ (fold : Folding) (b : ℕ) (block : Block) (after : List Block) (at : from_block (old fold) b ≡ block ∷ after) (st : stays fold b ≡ true)
    (p0 : Pos) where
  abbrev g : Program
  g = gp fold

  abbrev next : Option ℕ
  next = first_id (staying (stays fold) after)

  abbrev fall : Option ℕ
  fall = first_id after

  abbrev source_end : Pos
  source_end = record { block = block.id; item = block.source_end }

  abbrev Come : ℕ → Type 0
  Come n = LeadsFrom g p0 (block_start n)

  falls : (n : ℕ) (r : Pos) → r.block ≡ b → rest_of (new fold) r ≡ [] → next ≡ Some n → LeadsFrom g p0 r → Come n
  falls n r same none e l =
      leads_on g l (subst (λ (z : Fetch). FetchEdge g.enter z r (block_start n)) (sym (falls_from (new fold) b n
      (made_block (end fold) (stays fold) (was fold) (old fold) block after) (made (end fold) (stays fold) (was fold) (old fold) after)
      (made_at (end fold) (stays fold) (was fold) (old fold) (old fold) b block after at st)
      (made_first (end fold) (stays fold) (was fold) (old fold) after ∙ e) r same none)) refl)

  jumps : (n : ℕ) (r : Pos) (j : Item) (ys : List Item) → rest_of (new fold) r ≡ j ∷ ys → exit_of j.kind ≡ Always n → LeadsFrom g p0 r → Come n
  jumps n r j ys e exit l =
      leads_on g l (edge_at g r (block_start n) j ((laid_out false (new fold) fold.resolve).cons r j ys e).0 (jump_edge j.kind n r exit))

  needed : (n : ℕ) (r : Pos) (j : Item) → r.block ≡ b → exit_of j.kind ≡ Always n → (z : Bool) → is_number next n ≡ z →
      rest_of (new fold) r ≡ cond z [] (j ∷ []) → LeadsFrom g p0 r → Come n
  needed n r j same exit true z e l = falls n r same e (is_next next n z) l
  needed n r j same exit false z e l = jumps n r j [] e exit l

  branches : (n : ℕ) (r : Pos) (y : Item) (ys : List Item) → rest_of (new fold) r ≡ y ∷ ys → exit_of y.kind ≡ Perhaps n → LeadsFrom g p0 r → Come n
  branches n r y ys e exit l =
      leads_on g l (edge_at g r (block_start n) y ((laid_out false (new fold) fold.resolve).cons r y ys e).0 (branch_edge y.kind n r exit).0)

  passes : (n : ℕ) (r : Pos) (y : Item) (ys : List Item) → rest_of (new fold) r ≡ y ∷ ys → exit_of y.kind ≡ Perhaps n → LeadsFrom g p0 r →
      LeadsFrom g p0 (below r) × (rest_of (new fold) (below r) ≡ ys)
  passes n r y ys e exit l =
      let k = (laid_out false (new fold) fold.resolve).cons r y ys e in
      (leads_on g l (edge_at g r (below r) y k.0 (branch_edge y.kind n r exit).1), k.1)

  both_ways : (x : Item) (xs : List Item) (t u v : ℕ) (r : Pos) → r.block ≡ b → exit_of x.kind ≡ Perhaps t → IsJumpAtMost xs → (q w z : Bool) →
      nat_eq u v ≡ q → is_number next v ≡ w → is_number next u ≡ z →
      rest_of (new fold) r ≡ cond q (if_needed next v (jump_for_branch source_end x (first_of xs) v)) (cond w (sent u x ∷ [])
      (cond z (turned v x ∷ []) (sent u x ∷ jump_at_end source_end (first_of xs) v ∷ []))) → LeadsFrom g p0 r → Come u × Come v
  both_ways x xs t u v r same e may true w z a c d h l =
      let k = needed v r (jump_for_branch source_end x (first_of xs) v) same (jump_exit source_end xs v may) (is_number next v) refl h l in
      (subst Come (sym (eqb-true u v a)) k, k)
  both_ways x xs t u v r same e may false true z a c d h l =
      let k = passes u r (sent u x) [] h (sent_branch x.kind t u e) l in
      (branches u r (sent u x) [] h (sent_branch x.kind t u e) l, falls v (below r) same k.1 (is_next next v c) k.0)
  both_ways x xs t u v r same e may false false true a c d h l =
      let k = passes v r (turned v x) [] h (turned_branch x.kind t v e) l in
      (falls u (below r) same k.1 (is_next next u d) k.0, branches v r (turned v x) [] h (turned_branch x.kind t v e) l)
  both_ways x xs t u v r same e may false false false a c d h l =
      let j = jump_at_end source_end (first_of xs) v in
      let k = passes u r (sent u x) (j ∷ []) h (sent_branch x.kind t u e) l in
      (branches u r (sent u x) (j ∷ []) h (sent_branch x.kind t u e) l, jumps v (below r) j [] k.1 (jump_exit source_end xs v may) k.0)

  -- from where the end begins
  tail_ways : (xs : List Item) (r : Pos) → r.block ≡ b → rest_of (new fold) r ≡ rewritten (end fold) next fall source_end xs → EndsWell xs →
      (fall ≡ None → Closes xs) → ((x : Item) (ys : List Item) → xs ≡ x ∷ ys → exit_of x.kind ≡ Onward → ⊥) → LeadsFrom g p0 r → (n : ℕ) →
      LeadTo (ways_of xs fall) n → Come (end fold n)
  tail_ways [] r same h ends onto opens l n (inl e) = cc
  tail_ways [] r same h ends onto opens l n (inr e) =
      needed (end fold n) r (jump_at_end source_end None (end fold n)) same refl (is_number next (end fold n)) refl
      (h ∙ ap (plain_tail (end fold) next fall source_end None) e) l
  tail_ways (x ∷ xs) r same h ends onto opens l n way = by_exit (exit_of x.kind) refl ends.0 h way where
    by_exit : (q : Exit) → exit_of x.kind ≡ q → MayFollow q xs →
        rest_of (new fold) r ≡ tail_by (end fold) next fall source_end q x (first_of xs) (rewritten (end fold) next fall source_end xs) →
        LeadTo (ways_by q (first_of xs) (ways_of xs fall) fall) n → Come (end fold n)
    by_exit Onward e may h way = absurd (opens x xs refl e)
    by_exit (Perhaps t) e may h way =
        let w = goes_else x t xs fall e may onto in
        let u = end fold t in
        let v = end fold w.0 in
        let made_of = h ∙ ap (λ (o : Option ℕ). branch_tail_to (end fold) next fall source_end x (first_of xs) t o) w.1 in
        let k = both_ways x xs t u v r same e may (nat_eq u v) (is_number next v) (is_number next u) refl refl refl made_of l in
        by_way t w.0 w.1 k way where
          by_way : (t m : ℕ) → else_way (first_of xs) fall ≡ Some m → Come (end fold t) × Come (end fold m) →
              LeadTo (record { branch = Some t; onward = else_way (first_of xs) fall }) n → Come (end fold n)
          by_way t m to k (inl q) = let z : t ≡ n = cc in subst (λ (y : ℕ). Come (end fold y)) z k.0
          by_way t m to k (inr q) =
              let s : Some m ≡ Some n = sym to ∙ q in let z : m ≡ n = cc in subst (λ (y : ℕ). Come (end fold y)) z k.1
    by_exit (Always t) e may h (inl q) = cc
    by_exit (Always t) e may h (inr q) =
        let z : t ≡ n = cc in
        subst (λ (y : ℕ). Come (end fold y)) z
        (needed (end fold t) r (sent (end fold t) x) same (sent_jump x.kind t (end fold t) e) (is_number next (end fold t)) refl h l)
    by_exit Final e may h (inl q) = cc
    by_exit Final e may h (inr q) = cc

-- ---- where the function before stands, and how far the folded one has come

pub slice_put : (ks xs : List Item) (k : ℕ) → slice_get (ks ++ xs) (length ks + k) ≡ slice_get xs k
slice_put [] xs k = let e : 0 + k ≡ k = omega arith in ap (slice_get xs) e
slice_put (y ∷ ks) xs k =
    let e : suc (length ks) + k ≡ suc (length ks + k) = omega arith in ap (slice_get (y ∷ (ks ++ xs))) e ∙ slice_put ks xs k

drop_put : (ks xs : List Item) (k : ℕ) → drop (length ks + k) (ks ++ xs) ≡ drop k xs
drop_put [] xs k = let e : 0 + k ≡ k = omega arith in ap (λ (n : ℕ). drop n xs) e
drop_put (y ∷ ks) xs k =
    let e : suc (length ks) + k ≡ suc (length ks + k) = omega arith in ap (λ (n : ℕ). drop n (y ∷ (ks ++ xs))) e ∙ drop_put ks xs k

-- items that control goes on past stay as they are
anew_drop : (end : ℕ → ℕ) (next fall : Option ℕ) (s : Pos) (xs : List Item) (k : ℕ) → k ≤ length xs →
    ((j : ℕ) (i : Item) → j < k → slice_get xs j ≡ Some i → exit_of i.kind ≡ Onward) →
    drop k (rewritten end next fall s xs) ≡ rewritten end next fall s (drop k xs)
anew_drop end next fall s [] zero le passed = none (rewritten end next fall s []) where
  none : (ys : List Item) → drop 0 ys ≡ ys
  none [] = refl
  none (y ∷ ys) = refl
anew_drop end next fall s [] (suc k) le passed = absurd (omega (arith, le))
anew_drop end next fall s (x ∷ xs) zero le passed = none (rewritten end next fall s (x ∷ xs)) where
  none : (ys : List Item) → drop 0 ys ≡ ys
  none [] = refl
  none (y ∷ ys) = refl
anew_drop end next fall s (x ∷ xs) (suc k) le passed =
    let onward : exit_of x.kind ≡ Onward = passed 0 x (omega arith) refl in
    ap (λ (e : Exit). drop (suc k) (tail_by end next fall s e x (first_of xs) (rewritten end next fall s xs))) onward ∙
    anew_drop end next fall s xs k (omega (arith, le)) (λ j i lt e. passed (suc j) i (omega (arith, lt)) e)

drop_at : (xs : List Item) (k : ℕ) (x : Item) → slice_get xs k ≡ Some x → (ys : List Item) × (drop k xs ≡ x ∷ ys)
drop_at [] k x e = cc
drop_at (y ∷ ys) zero x e = let same : y ≡ x = cc in (ys, ap (λ (z : Item). z ∷ ys) same)
drop_at (y ∷ ys) (suc k) x e = drop_at ys k x e

drop_past : (xs : List Item) (k : ℕ) → length xs ≤ k → drop k xs ≡ []
drop_past [] zero le = refl
drop_past [] (suc k) le = refl
drop_past (x ∷ xs) zero le = absurd (omega (arith, le))
drop_past (x ∷ xs) (suc k) le = drop_past xs k (omega (arith, le))

ends_drop : (xs : List Item) (k : ℕ) → EndsWell xs → EndsWell (drop k xs)
ends_drop [] zero h = h
ends_drop [] (suc k) h = h
ends_drop (x ∷ xs) zero h = h
ends_drop (x ∷ xs) (suc k) h = ends_drop xs k h.1

onto_drop : (xs : List Item) (k : ℕ) → ((j : ℕ) (i : Item) → j < k → slice_get xs j ≡ Some i → exit_of i.kind ≡ Onward) → k ≤ length xs → Closes xs →
    Closes (drop k xs)
onto_drop [] k passed le h = absurd h
onto_drop (x ∷ xs) zero passed le h = h
onto_drop (x ∷ []) (suc k) passed le h = absurd (subst Leaves (passed 0 x (omega arith) refl) h)
onto_drop (x ∷ y ∷ ys) (suc k) passed le h = onto_drop (y ∷ ys) k (λ j i lt e. passed (suc j) i (omega (arith, lt)) e) (omega (arith, le)) h

kill_onward : (k : ItemKind) → Rattle.fold_rule_proof.proofs.Kills.IsKillKind k → exit_of k ≡ Onward
kill_onward (Mark v m) h = refl
kill_onward (Phi p n) h = refl
kill_onward (Code i n) h = absurd h

-- debug items at the start are passed
walk_kills : (g : Program) (rest : Pos → List Item) → Rattle.sem_simulation.specs.MatchStates.Laid g rest → ((n : ℕ) → g.enter n ≡ n) →
    (b n : ℕ) (ks xs : List Item) →
    All (IsKill b) ks → (p : ℕ) → rest (record { block = n; item = p }) ≡ ks ++ xs → (p0 : Pos) → LeadsFrom g p0 (record { block = n; item = p }) →
    (enter : g.enter ≡ (λ m. m)) → LeadsFrom g p0 (record { block = n; item = p + length ks })
walk_kills g rest laid same b n [] xs h p e p0 l enter =
    let z : p ≡ p + 0 = omega arith in subst (λ (m : ℕ). LeadsFrom g p0 (record { block = n; item = m })) z l
walk_kills g rest laid same b n (k ∷ ks) xs h p e p0 l enter =
    let at = laid.cons (record { block = n; item = p }) k (ks ++ xs) e in
    let edge : KindEdge g.enter k.kind (record { block = n; item = p }) (record { block = n; item = p + 1 }) =
    subst (λ (f : ℕ → ℕ). KindEdge f k.kind (record { block = n; item = p }) (record { block = n; item = p + 1 })) (sym enter)
    (pass_edge k.kind (record { block = n; item = p }) (kill_onward k.kind (All-head (IsKill b) k ks h).kind)) in
    let on = leads_on g l (edge_at g (record { block = n; item = p }) (record { block = n; item = p + 1 }) k at.0 edge) in
    let z : (p + 1) + length ks ≡ p + suc (length ks) = omega arith in
    subst (λ (m : ℕ). LeadsFrom g p0 (record { block = n; item = m })) z
    (walk_kills g rest laid same b n ks xs (All-tail (IsKill b) k ks h) (p + 1) at.1 p0 on enter)

module _ (fold : Folding) (p0 : Pos) where
  abbrev f : Program
  f = fp fold

  abbrev goal : Program
  goal = gp fold

  abbrev lost : ℕ → List Item
  lost n = kills (end fold) (was fold) (old fold) n

  abbrev Arrives : Pos → Type 0
  Arrives q = LeadsFrom goal p0 q

  -- where an item of a block that stays stands in the folded function, as long as control goes on past all above it
  abbrev pub at_new : Pos → Pos
  at_new p = record { block = p.block; item = length (lost p.block) + p.item }

  abbrev apart : Rattle.mir_func.specs.Sound.AreApart (Rattle.mir_func.specs.Sound.ids_of (old fold))
  apart = fold.sound.blocks_apart

  -- a position in a block that stays, past nothing but items that control goes on past
  pub record Above (p : Pos) : Type 0 where
    pub block : Block
    pub after : List Block
    pub at : from_block (old fold) p.block ≡ block ∷ after
    pub stay : stays fold p.block ≡ true
    pub within : p.item ≤ length block.items
    pub passed : (j : ℕ) (i : Item) → j < p.item → slice_get block.items j ≡ Some i → exit_of i.kind ≡ Onward
    pub arrived : Arrives (at_new p)

  -- a position from which control goes to block n, and the folded function has come to where that way ends
  pub record Passing (p : Pos) : Type 0 where
    pub block : Block
    pub after : List Block
    pub at : from_block (old fold) p.block ≡ block ∷ after
    pub to : ℕ
    pub leads : lead_of (drop p.item block.items) (first_id after) ≡ Some to
    pub stay : stays fold (end fold to) ≡ true
    pub arrived : Arrives (block_start (end fold to))

  pub data Stand : Pos → Type 0 where
    above : {p : Pos} → Above p → Stand p
    passing : {p : Pos} → Passing p → Stand p

  drop_none : (xs : List Item) → drop 0 xs ≡ xs
  drop_none [] = refl
  drop_none (x ∷ xs) = refl

  -- what stands in the folded function from there on
  rest_new : (p : Pos) (a : Above p) → rest_of (new fold) (at_new p) ≡ rewritten (end fold) (first_id (staying (stays fold) a.after)) (first_id a.after)
      (record { block = a.block.id; item = a.block.source_end }) (drop p.item a.block.items)
  rest_new p a =
      let id : a.block.id ≡ p.block = (found_in (old fold) p.block a.block a.after a.at).1 in
      let anew = rewritten (end fold) (first_id (staying (stays fold) a.after)) (first_id a.after) (record { block = a.block.id; item = a.block.source_end })
      a.block.items in
      ap (λ (z : List Block). rest_in z (length (lost p.block) + p.item))
      (made_at (end fold) (stays fold) (was fold) (old fold) (old fold) p.block a.block a.after a.at a.stay) ∙
      ap (λ (n : ℕ). drop (length (lost p.block) + p.item) (lost n ++ anew)) id ∙ drop_put (lost p.block) anew p.item ∙
      anew_drop (end fold) (first_id (staying (stays fold) a.after)) (first_id a.after) (record { block = a.block.id; item = a.block.source_end }) a.block.items
      p.item a.within a.passed

  enter : (n : ℕ) → stays fold (end fold n) ≡ true → Arrives (block_start (end fold n)) → Stand (block_start n)
  enter n st l = by_end (ends fold n) refl where
    stands : end fold n ≡ n → Stand (block_start n)
    stands own =
        let st' : stays fold n ≡ true = ap (stays fold) (sym own) ∙ st in
        let w = Rattle.fold_proof.proofs.Folding.found_staying fold n st' in
        let l' : Arrives (block_start n) = subst (λ (m : ℕ). Arrives (block_start m)) own l in
        let id : w.block.id ≡ n = (found_in (old fold) n w.block w.rest w.at).1 in
        let anew = rewritten (end fold) (first_id (staying (stays fold) w.rest)) (first_id w.rest) (record { block = w.block.id; item = w.block.source_end })
        w.block.items in
        let items : rest_of (new fold) (block_start n) ≡ lost n ++ anew =
        ap (λ (z : List Block). rest_in z 0) (made_at (end fold) (stays fold) (was fold) (old fold) (old fold) n w.block w.rest w.at st') ∙
        drop_none (lost w.block.id ++ anew) ∙ ap (λ (m : ℕ). lost m ++ anew) id in
        let walked = walk_kills goal (rest_of (new fold)) (laid_out false (new fold) fold.resolve) (λ n. refl) n n (lost n) anew
        (each_kill (end fold) (was fold) (old fold) n) 0 items p0 l' refl in
        let z : 0 + length (lost n) ≡ length (lost n) + 0 = omega arith in
        above {p = block_start n} (record {
          block = w.block;
          after = w.rest;
          at = w.at;
          stay = st';
          within = omega arith;
          passed = λ j i lt e. absurd (omega (arith, lt));
          arrived = subst (λ (m : ℕ). Arrives (record { block = n; item = m })) z walked;
        })

    by_end : {e : ℕ} → EndsAt (lead (old fold)) n e → end fold n ≡ e → Stand (block_start n)
    by_end (leads_nowhere h) q = stands q
    by_end (comes_round h) q = stands q
    by_end (goes_on {b} {n = m} {e} h ne more) q =
        let w = lead_at (old fold) apart n m h in
        let same : end fold m ≡ end fold n = one_end (lead (old fold)) (ends fold m) more ∙ sym q in
        passing {p = block_start n} (record {
          block = w.block;
          after = w.rest;
          at = w.at;
          to = m;
          leads = ap (λ (xs : List Item). lead_of xs (first_id w.rest)) (drop_none w.block.items) ∙ w.leads;
          stay = ap (stays fold) same ∙ st;
          arrived = subst (λ (z : ℕ). Arrives (block_start z)) (sym same) l;
        })

  -- the ways from a position above the end of its block
  ways_from : (p : Pos) (a : Above p) → ((x : Item) (ys : List Item) → drop p.item a.block.items ≡ x ∷ ys → exit_of x.kind ≡ Onward → ⊥) → (n : ℕ) →
      LeadTo (ways_of (drop p.item a.block.items) (first_id a.after)) n → (stays fold (end fold n) ≡ true) × Arrives (block_start (end fold n))
  ways_from p a opens n way =
      let member = (found_in (old fold) p.block a.block a.after a.at).0 in
      let well = All-contains (λ (b : Block). EndsWell b.items) (old fold) a.block fold.sound.ends member in (
        stay_on (drop p.item a.block.items) a.passed well,
        tail_ways fold p.block a.block a.after a.at a.stay p0 (drop p.item a.block.items) (at_new p) refl
            (rest_new p a) (ends_drop a.block.items p.item well)
            (λ none. onto_drop a.block.items p.item a.passed a.within
            (Rattle.fold_proof.proofs.Along.last_closes (old fold) p.block a.block
            (a.at ∙ ap (λ (z : List Block). a.block ∷ z) (Rattle.fold_proof.proofs.Along.none_after a.after none)) fold.sound.last)) opens a.arrived n way,
      ) where
        whole_ways : (xs : List Item) (k : ℕ) → ((j : ℕ) (i : Item) → j < k → slice_get xs j ≡ Some i → exit_of i.kind ≡ Onward) →
            LeadTo (ways_of (drop k xs) (first_id a.after)) n → LeadTo (ways_of xs (first_id a.after)) n
        whole_ways [] zero passed l = l
        whole_ways [] (suc k) passed l = l
        whole_ways (x ∷ xs) zero passed l = l
        whole_ways (x ∷ xs) (suc k) passed l =
            subst (λ (e : Exit). LeadTo (ways_by e (first_of xs) (ways_of xs (first_id a.after)) (first_id a.after)) n) (sym (passed 0 x (omega arith) refl))
            (whole_ways xs k (λ j i lt e. passed (suc j) i (omega (arith, lt)) e) l)

        stay_on : (xs : List Item) → ((j : ℕ) (i : Item) → j < p.item → slice_get a.block.items j ≡ Some i → exit_of i.kind ≡ Onward) → EndsWell a.block.items →
            stays fold (end fold n) ≡ true
        stay_on xs passed well =
            (fold.kills.folded.reached (end fold n)).1
            (onward (ways_of a.block.items (first_id a.after)) ((fold.kills.folded.reached p.block).0 a.stay)
            (Rattle.fold_proof.proofs.Ways.ways_at (old fold) p.block a.block a.after a.at) (whole_ways a.block.items p.item passed way))

  -- what stands at a position, and what is left from there
  rest_at : (p : Pos) (b : Block) (after : List Block) → from_block (old fold) p.block ≡ b ∷ after → (x : Item) → f.fetch p ≡ Here x →
      (slice_get b.items p.item ≡ Some x) × ((ys : List Item) × (drop p.item b.items ≡ x ∷ ys))
  rest_at p b after at x e =
      let k = Rattle.sem_mir.proofs.Reading.front_item b.items p.item b.source_end after x (ap (λ (z : List Block). fetch_in z p.item) (sym at) ∙ e) in
      (k, drop_at b.items p.item x k)

  drop_more : (xs : List Item) (k : ℕ) (x : Item) (ys : List Item) → drop k xs ≡ x ∷ ys → drop (k + 1) xs ≡ ys
  drop_more [] zero x ys e = cc
  drop_more [] (suc k) x ys e = cc
  drop_more (z ∷ zs) zero x ys e =
      let tail : zs ≡ ys = cc in let n : 0 + 1 ≡ suc 0 = omega arith in ap (λ (m : ℕ). drop m (z ∷ zs)) n ∙ none zs ∙ tail where
        none : (us : List Item) → drop 0 us ≡ us
        none [] = refl
        none (u ∷ us) = refl
  drop_more (z ∷ zs) (suc k) x ys e = let n : suc k + 1 ≡ suc (k + 1) = omega arith in ap (λ (m : ℕ). drop m (z ∷ zs)) n ∙ drop_more zs k x ys e

  step_passing : (p q : Pos) → Passing p → Edge f p q → Stand q
  step_passing p q s edge = by_fetch (f.fetch p) refl edge where
    by_fetch : (x : Fetch) → f.fetch p ≡ x → FetchEdge (λ n. n) x p q → Stand q
    by_fetch (Here x) at e =
        let k = rest_at p s.block s.after s.at x at in
        let l : lead_by x.kind (lead_of k.1.0 (first_id s.after)) ≡ Some s.to = ap (λ (xs : List Item). lead_of xs (first_id s.after)) (sym k.1.1) ∙ s.leads in
        by_kind x.kind k.1.0 l e (drop_more s.block.items p.item x k.1.0 k.1.1) where
          on_below : (ys : List Item) → lead_of ys (first_id s.after) ≡ Some s.to → drop (p.item + 1) s.block.items ≡ ys → q ≡ below p → Stand q
          on_below ys l d e = subst Stand (sym e) (passing {p = below p} (record {
            block = s.block;
            after = s.after;
            at = s.at;
            to = s.to;
            leads = ap (λ (xs : List Item). lead_of xs (first_id s.after)) d ∙ l;
            stay = s.stay;
            arrived = s.arrived;
          }))

          on_exit : {e : Exit} (n : ℕ) → e ≡ Always s.to → (e ≡ Perhaps n) ⊎ (e ≡ Always n) → q ≡ block_start n → Stand q
          on_exit n exit (inl h) t = let bad : Perhaps n ≡ Always s.to = sym h ∙ exit in cc
          on_exit n exit (inr h) t =
              let same : Always s.to ≡ Always n = sym exit ∙ h in
              let z : s.to ≡ n = cc in
              subst Stand (sym (t ∙ ap block_start (sym z))) (enter s.to s.stay s.arrived)

          by_kind : (k : ItemKind) (ys : List Item) → lead_by k (lead_of ys (first_id s.after)) ≡ Some s.to → KindEdge (λ n. n) k p q →
              drop (p.item + 1) s.block.items ≡ ys → Stand q
          by_kind (Mark v m) ys l e d = on_below ys l d e
          by_kind (Phi r m) ys l e d = on_below ys l d e
          by_kind (Code i m) ys l e d =
              let exit = always_is (row_exit (row_of i)) s.to l in
              elim (edge_item (Code i m) p q e) as (λ z. Stand q) [
                | inl w ↦ on_exit w.0 exit w.1 w.2
                | inr w ↦ absurd (w.0 (subst Leaves (sym exit) tt))
              ]
    by_fetch (EndOfBlock k n) at e =
        let w = ends_in false (old fold) fold.resolve p k n at in
        let same_blocks : w.block ∷ w.rest ≡ s.block ∷ s.after = sym w.at ∙ s.at in
        let block : w.block ≡ s.block = cc in
        let rest : w.rest ≡ s.after = cc in
        let over : drop p.item s.block.items ≡ [] = drop_past s.block.items p.item (subst (λ (b : Block). length b.items ≤ p.item) block w.past) in
        let l : first_id s.after ≡ Some s.to = ap (λ (xs : List Item). lead_of xs (first_id s.after)) (sym over) ∙ s.leads in
        let both : Some n ≡ Some s.to = sym w.next ∙ ap first_id rest ∙ l in
        let same : n ≡ s.to = cc in
        subst Stand (sym (e ∙ ap block_start same)) (enter s.to s.stay s.arrived)
    by_fetch Outside at e = absurd e

  step_above : (p q : Pos) → Above p → Edge f p q → Stand q
  step_above p q a edge = by_fetch (f.fetch p) refl edge where
    fall : Option ℕ
    fall = first_id a.after

    member : Contains (old fold) a.block
    member = (found_in (old fold) p.block a.block a.after a.at).0

    well : EndsWell a.block.items
    well = All-contains (λ (b : Block). EndsWell b.items) (old fold) a.block fold.sound.ends member

    by_fetch : (x : Fetch) → f.fetch p ≡ x → FetchEdge (λ n. n) x p q → Stand q
    by_fetch (Here x) at e = by_exit (exit_of x.kind) refl (edge_item x.kind p q e) where
      item : slice_get a.block.items p.item ≡ Some x
      item = (rest_at p a.block a.after a.at x at).0

      left : (ys : List Item) × (drop p.item a.block.items ≡ x ∷ ys)
      left = (rest_at p a.block a.after a.at x at).1

      ends_left : EndsWell (x ∷ left.0)
      ends_left = subst EndsWell left.1 (ends_drop a.block.items p.item well)

      not_onward : (exit_of x.kind ≡ Onward → ⊥) → (y : Item) (ys : List Item) → drop p.item a.block.items ≡ y ∷ ys → exit_of y.kind ≡ Onward → ⊥
      not_onward opens y ys d e =
          let both : x ∷ left.0 ≡ y ∷ ys = sym left.1 ∙ d in
          let same : x ≡ y = cc in
          opens (ap (λ (i : Item). exit_of i.kind) same ∙ e)

      way : (exit_of x.kind ≡ Onward → ⊥) → (n : ℕ) → LeadTo (ways_by (exit_of x.kind) (first_of left.0) (ways_of left.0 fall) fall) n →
          (stays fold (end fold n) ≡ true) × Arrives (block_start (end fold n))
      way opens n l = ways_from p a (not_onward opens) n (subst (λ (xs : List Item). LeadTo (ways_of xs fall) n) (sym left.1) l)

      below_onward : exit_of x.kind ≡ Onward → q ≡ below p → Stand q
      below_onward h e = subst Stand (sym e) (above {p = below p} (record {
        block = a.block;
        after = a.after;
        at = a.at;
        stay = a.stay;
        within = (let lt = slice_get_within a.block.items p.item x item in omega (arith, lt));
        passed = λ j i lt k. elim (cases_eq j p.item) as (λ z. exit_of i.kind ≡ Onward) [
          | inl same ↦ (let both : Some x ≡ Some i = sym item ∙ ap (slice_get a.block.items) (sym same) ∙ k in
              let one : x ≡ i = cc in ap (λ (z : Item). exit_of z.kind) (sym one) ∙ h)
          | inr other ↦ a.passed j i (omega (arith, lt, other)) k
        ];
        arrived = (let here : goal.fetch (at_new p) ≡ Here x =
            ((laid_out false (new fold) fold.resolve).cons (at_new p) x _ (rest_new p a ∙
            ap (rewritten (end fold) (first_id (staying (stays fold) a.after)) fall (record { block = a.block.id; item = a.block.source_end })) left.1 ∙
            ap (λ (e : Exit). tail_by (end fold) (first_id (staying (stays fold) a.after)) fall (record { block = a.block.id; item = a.block.source_end }) e x
            (first_of left.0) (rewritten (end fold) (first_id (staying (stays fold) a.after)) fall
            (record { block = a.block.id; item = a.block.source_end }) left.0)) h)).0 in
            let z : length (lost p.block) + p.item + 1 ≡ length (lost p.block) + (p.item + 1) = omega arith in
            subst (λ (m : ℕ). Arrives (record { block = p.block; item = m })) z
            (leads_on goal a.arrived (edge_at goal (at_new p) (below (at_new p)) x here (pass_edge x.kind (at_new p) h))));
      }))

      -- past a branch control goes where it doesn't branch
      below_branch : (t : ℕ) → exit_of x.kind ≡ Perhaps t → (ys : List Item) → left.0 ≡ ys → IsJumpAtMost ys → (m : ℕ) → else_way (first_of ys) fall ≡ Some m →
          (stays fold (end fold m) ≡ true) × Arrives (block_start (end fold m)) → q ≡ below p → Stand q
      below_branch t h ys same may m to come e = subst Stand (sym e) (passing {p = below p} (record {
        block = a.block;
        after = a.after;
        at = a.at;
        to = m;
        leads = ap (λ (xs : List Item). lead_of xs fall) (drop_more a.block.items p.item x left.0 left.1 ∙ same) ∙ lead_past ys may to;
        stay = come.0;
        arrived = come.1;
      })) where
        lead_past : (zs : List Item) → IsJumpAtMost zs → else_way (first_of zs) fall ≡ Some m → lead_of zs fall ≡ Some m
        lead_past [] may to = to
        lead_past (j ∷ []) may to = by_kind j.kind may to where
          by_kind : (k : ItemKind) → IsAlways (exit_of k) → always_to (exit_of k) ≡ Some m → lead_by k fall ≡ Some m
          by_kind (Code i n) l to = to
          by_kind (Mark v n) l to = absurd l
          by_kind (Phi r n) l to = absurd l
        lead_past (j ∷ y ∷ zs) may to = absurd may

      by_exit : (z : Exit) → exit_of x.kind ≡ z →
          ((n : ℕ) × ((exit_of x.kind ≡ Perhaps n) ⊎ (exit_of x.kind ≡ Always n)) × (q ≡ block_start n)) ⊎
          ((Leaves (exit_of x.kind) → ⊥) × (q ≡ below p)) → Stand q
      by_exit Onward h (inl (n, inl k, t)) = let bad : Onward ≡ Perhaps n = sym h ∙ k in cc
      by_exit Onward h (inl (n, inr k, t)) = let bad : Onward ≡ Always n = sym h ∙ k in cc
      by_exit Onward h (inr w) = below_onward h w.1
      by_exit (Perhaps t) h (inl (n, inr k, e)) = let bad : Perhaps t ≡ Always n = sym h ∙ k in cc
      by_exit (Perhaps t) h (inl (n, inl k, e)) =
          let come = way (λ o. let bad : Perhaps t ≡ Onward = sym h ∙ o in cc) n
          (subst (λ (z : Exit). LeadTo (ways_by z (first_of left.0) (ways_of left.0 fall) fall) n) (sym k) (inl refl)) in
          subst Stand (sym e) (enter n come.0 come.1)
      by_exit (Perhaps t) h (inr w) =
          let may : IsJumpAtMost left.0 = subst (λ (z : Exit). MayFollow z left.0) h ends_left.0 in
          let m = goes_else x t left.0 fall h may (λ none. subst Closes left.1 (onto_drop a.block.items p.item a.passed a.within
          (Rattle.fold_proof.proofs.Along.last_closes (old fold) p.block a.block
          (a.at ∙ ap (λ (z : List Block). a.block ∷ z) (Rattle.fold_proof.proofs.Along.none_after a.after none)) fold.sound.last))) in
          let come = way (λ o. let bad : Perhaps t ≡ Onward = sym h ∙ o in cc) m.0
          (subst (λ (z : Exit). LeadTo (ways_by z (first_of left.0) (ways_of left.0 fall) fall) m.0) (sym h) (inr m.1)) in
          below_branch t h left.0 refl may m.0 m.1 come w.1
      by_exit (Always t) h (inl (n, inl k, e)) = let bad : Always t ≡ Perhaps n = sym h ∙ k in cc
      by_exit (Always t) h (inl (n, inr k, e)) =
          let come = way (λ o. let bad : Always t ≡ Onward = sym h ∙ o in cc) n
          (subst (λ (z : Exit). LeadTo (ways_by z (first_of left.0) (ways_of left.0 fall) fall) n) (sym k) (inr refl)) in
          subst Stand (sym e) (enter n come.0 come.1)
      by_exit (Always t) h (inr w) = absurd (w.0 (subst Leaves (sym h) tt))
      by_exit Final h (inl (n, inl k, e)) = let bad : Final ≡ Perhaps n = sym h ∙ k in cc
      by_exit Final h (inl (n, inr k, e)) = let bad : Final ≡ Always n = sym h ∙ k in cc
      by_exit Final h (inr w) = absurd (w.0 (subst Leaves (sym h) tt))
    by_fetch (EndOfBlock k n) at e =
        let w = ends_in false (old fold) fold.resolve p k n at in
        let same_blocks : w.block ∷ w.rest ≡ a.block ∷ a.after = sym w.at ∙ a.at in
        let block : w.block ≡ a.block = cc in
        let rest : w.rest ≡ a.after = cc in
        let over : drop p.item a.block.items ≡ [] = drop_past a.block.items p.item (subst (λ (b : Block). length b.items ≤ p.item) block w.past) in
        let come = ways_from p a (λ x ys d h. let bad : [] ≡ x ∷ ys = sym over ∙ d in cc) n
        (subst (λ (xs : List Item). LeadTo (ways_of xs (first_id a.after)) n) (sym over) (inr (ap first_id (sym rest) ∙ w.next))) in
        subst Stand (sym e) (enter n come.0 come.1)
    by_fetch Outside at e = absurd e

  pub stand_along : {p q : Pos} → LeadsFrom f p q → Stand p → Stand q
  stand_along stay s = s
  stand_along (go {p} {q = r} {r = q} edge more) (above a) = stand_along more (step_above p r a edge)
  stand_along (go {p} {q = r} {r = q} edge more) (passing s) = stand_along more (step_passing p r s edge)

  -- code that is no branch and stands in the function before stands in the folded one
  pub stands_there : (q : Pos) (j : Item) → Stand q → f.fetch q ≡ Here j → OnRow Counts j.kind → (goal.fetch (at_new q) ≡ Here j) × Arrives (at_new q)
  stands_there q j (passing s) at counts =
      let k = rest_at q s.block s.after s.at j at in
      let l : lead_by j.kind (lead_of k.1.0 (first_id s.after)) ≡ Some s.to = ap (λ (xs : List Item). lead_of xs (first_id s.after)) (sym k.1.1) ∙ s.leads in
      absurd (by_kind j.kind (lead_of k.1.0 (first_id s.after)) l counts) where
        by_row : (r : Row) → always_to (row_exit r) ≡ Some s.to → Counts r → ⊥
        by_row (Jumps t) e c = c
        by_row _ e c = cc

        by_kind : (k : ItemKind) (rest : Option ℕ) → lead_by k rest ≡ Some s.to → OnRow Counts k → ⊥
        by_kind (Code i m) rest l c = by_row (row_of i) l c
        by_kind (Mark v m) rest l c = c
        by_kind (Phi r m) rest l c = c
  stands_there q j (above a) at counts =
      let item = (rest_at q a.block a.after a.at j at).0 in
      let member = (found_in (old fold) q.block a.block a.after a.at).0 in
      let id : a.block.id ≡ q.block = (found_in (old fold) q.block a.block a.after a.at).1 in
      let well = All-contains (λ (b : Block). EndsWell b.items) (old fold) a.block fold.sound.ends member in
      let next = first_id (staying (stays fold) a.after) in
      let source_end : Pos = record { block = a.block.id; item = a.block.source_end } in
      let anew = rewritten (end fold) next (first_id a.after) source_end a.block.items in
      let still = Rattle.fold_proof.proofs.Tails.stands_still (end fold) next (first_id a.after) source_end a.block.items q.item j well item
      (of_kind j.kind counts) in
      let placed : slice_get (lost a.block.id ++ anew) (length (lost q.block) + q.item) ≡ Some j =
      ap (λ (n : ℕ). slice_get (lost a.block.id ++ anew) (length (lost n) + q.item)) (sym id) ∙ slice_put (lost a.block.id) anew q.item ∙ still in (
        ap (λ (z : List Block). fetch_in z (length (lost q.block) + q.item))
            (made_at (end fold) (stays fold) (was fold) (old fold) (old fold) q.block a.block a.after a.at a.stay) ∙
            item_front (lost a.block.id ++ anew) (length (lost q.block) + q.item) a.block.source_end
            (made (end fold) (stays fold) (was fold) (old fold) a.after) j placed,
        a.arrived,
      ) where
        of_row : (r : Row) → Counts r → (row_exit r ≡ Onward) ⊎ (row_exit r ≡ Final)
        of_row (Branches op x y t) c = absurd c
        of_row (Jumps t) c = absurd c
        of_row (Returns v) c = inr refl
        of_row Unfit c = inr refl
        of_row _ c = inl refl

        of_kind : (k : ItemKind) → OnRow Counts k → (exit_of k ≡ Onward) ⊎ (exit_of k ≡ Final)
        of_kind (Code i m) c = of_row (row_of i) c
        of_kind (Mark v m) c = absurd c
        of_kind (Phi r m) c = absurd c
