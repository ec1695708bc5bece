-- Steps of the search for nodes from which each walk ends.
use Rattle.std.proofs.Common.{◌≡◌, ◌⊎◌, ℕ, zero, suc, ◌+◌, ◌<◌, ◌≤◌, List, [], ◌∷◌, ◌++◌, length, Bool, true, false, refl, sym, ap, ◌∙◌, subst}
use Rattle.std.proofs.Common.{inl, inr, arith, eqb, ltb-true, ltb-false, take, replicate}
use Rattle.std.specs.Prelude.{slice_index_or, slice_set, nat_lt, Contains}
use Rattle.std.proofs.lemmas.Bool.{eqb-true, eqb-false, false≢true}
use Rattle.std.proofs.lemmas.List.{get_or-set_same, get_or-set_other, get_or_default, get_or_past, length-set, length-append}
use Rattle.std.proofs.lemmas.List.{get_or-replicate, length-replicate, get_or_append_left, take-append-le, take_at}
use Rattle.std.proofs.lemmas.List.Elements.{Contains-push, Contains-push_cases, Contains-append_left, Contains-append_cases, Contains-get_or, All-push}
use Rattle.std.proofs.lemmas.List.Elements.{All-contains}
use Rattle.dataflow.specs.Graph.{ways_at, IsEdge, AreBlocks, IsGraph, ArePredecessors, IsOrder}
use Rattle.dataflow.proofs.Pushed.{at_push}
use Rattle.graph_cycles.specs.Ends.{Ends, on, is_marked, AreEnds}
use Rattle.graph_cycles.specs.steps.Search.{successor, count_at, IsFirstUnmarked, IsSearch, IsOpen, AreOpen, unmarked}

-- ---- marks

pub none_in : {n : ℕ} → Contains [] n → ⊥
none_in (j, less, is) = absurd (omega arith)

pub only_in : (v n : ℕ) → Contains (v ∷ []) n → n ≡ v
only_in v n (zero, less, is) = sym is
only_in v n (suc j, less, is) = absurd (omega arith)

marked_same : (marks : List Bool) (v : ℕ) → v < length marks → is_marked (slice_set marks v true) v ≡ true
marked_same marks v less = get_or-set_same marks v true false less

marked_other : (marks : List Bool) (v n : ℕ) → (n ≡ v → ⊥) → is_marked (slice_set marks v true) n ≡ is_marked marks n
marked_other marks v n apart = get_or-set_other marks v n true false apart

marked_more : (marks : List Bool) (v n : ℕ) → v < length marks → is_marked marks n ≡ true → is_marked (slice_set marks v true) n ≡ true
marked_more marks v n less is = by_case (eqb n v) refl
  where
    by_case : (z : Bool) → eqb n v ≡ z → is_marked (slice_set marks v true) n ≡ true
    by_case true e = ap (is_marked (slice_set marks v true)) (eqb-true n v e) ∙ marked_same marks v less
    by_case false e = marked_other marks v n (eqb-false n v e) ∙ is

-- what isn't marked beside a new mark is another node, and wasn't before
unmarked_other : (marks : List Bool) (v n : ℕ) → v < length marks → is_marked (slice_set marks v true) n ≡ false → (n ≡ v → ⊥) × (is_marked marks n ≡ false)
unmarked_other marks v n less out = by_case (eqb n v) refl
  where
    by_case : (z : Bool) → eqb n v ≡ z → (n ≡ v → ⊥) × (is_marked marks n ≡ false)
    by_case true e =
        absurd (false≢true (sym out ∙ ap (is_marked (slice_set marks v true)) (eqb-true n v e) ∙ marked_same marks v less))
    by_case false e = (eqb-false n v e, sym (marked_other marks v n (eqb-false n v e)) ∙ out)

pub fewer : (marks : List Bool) (v : ℕ) → v < length marks → is_marked marks v ≡ false → unmarked (slice_set marks v true) + 1 ≡ unmarked marks
fewer [] v less out = absurd (omega arith)
fewer (true ∷ marks) zero less out = cc
fewer (false ∷ marks) zero less out = omega arith
fewer (true ∷ marks) (suc v) less out = fewer marks v (omega arith) out
fewer (false ∷ marks) (suc v) less out = omega (arith, fewer marks v (omega arith) out)

pub first_of : (ways other : List ℕ) (marks more : List Bool) (start n k : ℕ) → other ≡ ways → more ≡ marks → n ≡ start
    → IsFirstUnmarked other more n k → IsFirstUnmarked ways marks start k
first_of ways other marks more start n k a b d f =
    subst (λ (m : ℕ). IsFirstUnmarked ways marks m k) d
    (subst (λ (m : List Bool). IsFirstUnmarked ways m n k) b (subst (λ (w : List ℕ). IsFirstUnmarked w more n k) a f))

pub last_within : (nodes : ℕ) (waiting rest : List ℕ) (v : ℕ) → waiting ≡ rest ++ v ∷ [] → AreBlocks nodes waiting → v < nodes
last_within nodes waiting rest v split all =
    All-contains (λ (n : ℕ). n < nodes) waiting v all (subst (λ (w : List ℕ). Contains w v) (sym split) (Contains-push rest v))

-- ---- a visit

module _ (successors : List (List ℕ)) where
  -- the successors of a node are counted up to one that isn't marked
  pub counted : (checked : List ℕ) (marks : List Bool) (order waiting : List ℕ) (v k : ℕ) → IsSearch successors checked marks order waiting
      → v < length successors → IsFirstUnmarked (ways_at successors v) marks (count_at checked v) k
      → IsSearch successors (slice_set checked v k) marks order waiting
  counted checked marks order waiting v k s less f = record {
    counts = length-set checked v k ∙ s.counts;
    long = s.long;
    within = s.within;
    ordered = s.ordered;
    right = s.right;
    inside = inside;
    past = past;
  }
    where
      new : count_at (slice_set checked v k) v ≡ k
      new = get_or-set_same checked v k 0 (omega (arith, less, s.counts))

      old : (n : ℕ) → (n ≡ v → ⊥) → count_at (slice_set checked v k) n ≡ count_at checked n
      old n apart = get_or-set_other checked v n k 0 apart

      inside : (n : ℕ) → count_at (slice_set checked v k) n ≤ length (ways_at successors n)
      inside n = by_case (eqb n v) refl
        where
          by_case : (z : Bool) → eqb n v ≡ z → count_at (slice_set checked v k) n ≤ length (ways_at successors n)
          by_case true e =
              subst (λ (m : ℕ). count_at (slice_set checked v k) m ≤ length (ways_at successors m)) (sym (eqb-true n v e)) (omega (arith, new, f.inside))
          by_case false e = omega (arith, old n (eqb-false n v e), s.inside n)

      own : (j : ℕ) → j < k → (z : Bool) → nat_lt j (count_at checked v) ≡ z → is_marked marks (successor successors v j) ≡ true
      own j below true e = s.past v j (ltb-true j (count_at checked v) e)
      own j below false e = f.past j (omega (arith, ltb-false j (count_at checked v) e)) below

      past : (n j : ℕ) → j < count_at (slice_set checked v k) n → is_marked marks (successor successors n j) ≡ true
      past n j below = by_case (eqb n v) refl
        where
          by_case : (z : Bool) → eqb n v ≡ z → is_marked marks (successor successors n j) ≡ true
          by_case true e =
              let same : n ≡ v = eqb-true n v e in
              let here : j < k = omega (arith, below, ap (count_at (slice_set checked v k)) same, new) in
              subst (λ (m : ℕ). is_marked marks (successor successors m j) ≡ true) (sym same) (own j here (nat_lt j (count_at checked v)) refl)
          by_case false e = s.past n j (omega (arith, below, old n (eqb-false n v e)))

  -- a node all of whose successors are marked is marked
  pub marked : (checked : List ℕ) (marks : List Bool) (order waiting : List ℕ) (v : ℕ) → IsSearch successors checked marks order waiting → v < length successors
      → is_marked marks v ≡ false → count_at checked v ≡ length (ways_at successors v)
      → IsSearch successors checked (slice_set marks v true) (order ++ v ∷ []) (waiting ++ v ∷ [])
  marked checked marks order waiting v s less none all = record {
    counts = s.counts;
    long = length-set marks v true ∙ s.long;
    within = All-push (λ (n : ℕ). n < length successors) waiting v s.within less;
    ordered = record {
      within = All-push (λ (n : ℕ). n < length successors) order v s.ordered.within less;
      listed = λ n. (only n, listed n);
      once = once;
      behind = behind;
    };
    right = right;
    inside = s.inside;
    past = λ n k below. marked_more marks v (successor successors n k) inside_marks (s.past n k below);
  }
    where
      inside_marks : v < length marks
      inside_marks = omega (arith, less, s.long)

      each : (m : ℕ) → IsEdge successors v m → Ends (IsEdge successors) m
      each m (j, below, is) =
          let at : successor successors v j ≡ m = get_or_default (ways_at successors v) j 0 m below ∙ is in
          s.right m (sym (ap (is_marked marks) at) ∙ s.past v j (omega (arith, below, all)))

      only : (n : ℕ) → Contains (order ++ v ∷ []) n → is_marked (slice_set marks v true) n ≡ true
      only n held = elim (Contains-push_cases order v n held) [
        | inl before ↦ marked_more marks v n inside_marks ((s.ordered.listed n).0 before)
        | inr same ↦ ap (is_marked (slice_set marks v true)) (sym same) ∙ marked_same marks v inside_marks
      ]

      listed : (n : ℕ) → is_marked (slice_set marks v true) n ≡ true → Contains (order ++ v ∷ []) n
      listed n is = by_case (eqb n v) refl
        where
          by_case : (z : Bool) → eqb n v ≡ z → Contains (order ++ v ∷ []) n
          by_case true e = subst (Contains (order ++ v ∷ [])) (sym (eqb-true n v e)) (Contains-push order v)
          by_case false e =
              Contains-append_left order (v ∷ []) n ((s.ordered.listed n).1 (sym (marked_other marks v n (eqb-false n v e)) ∙ is))

      once : (k : ℕ) → k < length (order ++ v ∷ []) → Contains (take k (order ++ v ∷ [])) (slice_index_or (order ++ v ∷ []) k 0) → ⊥
      once k below = at_push order v 0 k (λ n. Contains (take k (order ++ v ∷ [])) n → ⊥) older here far
        where
          older : k < length order → Contains (take k (order ++ v ∷ [])) (slice_index_or order k 0) → ⊥
          older low held =
              s.ordered.once k low (subst (λ (ns : List ℕ). Contains ns (slice_index_or order k 0)) (take-append-le k order (v ∷ []) (omega (arith, low))) held)

          here : k ≡ length order → Contains (take k (order ++ v ∷ [])) v → ⊥
          here same held =
              false≢true (sym none ∙ (s.ordered.listed v).0 (subst (λ (ns : List ℕ). Contains ns v) (take_at order (v ∷ []) k (sym same)) held))

          far : length order < k → Contains (take k (order ++ v ∷ [])) 0 → ⊥
          far more held = absurd (omega (arith, more, below, length-append order (v ∷ [])))

      before : (m : ℕ) → IsEdge successors v m → Contains order m
      before m (j, below, is) =
          let at : successor successors v j ≡ m = get_or_default (ways_at successors v) j 0 m below ∙ is in
          (s.ordered.listed m).1 (sym (ap (is_marked marks) at) ∙ s.past v j (omega (arith, below, all)))

      behind : (k m : ℕ) → k < length (order ++ v ∷ []) → IsEdge successors (slice_index_or (order ++ v ∷ []) k 0) m → Contains (take k (order ++ v ∷ [])) m
      behind k m below = at_push order v 0 k (λ n. IsEdge successors n m → Contains (take k (order ++ v ∷ [])) m) older here far
        where
          older : k < length order → IsEdge successors (slice_index_or order k 0) m → Contains (take k (order ++ v ∷ [])) m
          older low edge =
              subst (λ (ns : List ℕ). Contains ns m) (sym (take-append-le k order (v ∷ []) (omega (arith, low)))) (s.ordered.behind k m low edge)

          here : k ≡ length order → IsEdge successors v m → Contains (take k (order ++ v ∷ [])) m
          here same edge = subst (λ (ns : List ℕ). Contains ns m) (sym (take_at order (v ∷ []) k (sym same))) (before m edge)

          far : length order < k → IsEdge successors 0 m → Contains (take k (order ++ v ∷ [])) m
          far more edge = absurd (omega (arith, more, below, length-append order (v ∷ [])))

      right : (n : ℕ) → is_marked (slice_set marks v true) n ≡ true → Ends (IsEdge successors) n
      right n is = by_case (eqb n v) refl
        where
          by_case : (z : Bool) → eqb n v ≡ z → Ends (IsEdge successors) n
          by_case true e = subst (Ends (IsEdge successors)) (sym (eqb-true n v e)) (on each)
          by_case false e = s.right n (sym (marked_other marks v n (eqb-false n v e)) ∙ is)

  pub visited : (checked : List ℕ) (marks : List Bool) (order waiting new_order new_waiting : List ℕ) (v k : ℕ)
      → IsSearch successors checked marks order waiting → v < length successors → is_marked marks v ≡ false
      → IsFirstUnmarked (ways_at successors v) marks (count_at checked v) k → k ≡ length (ways_at successors v) → new_order ≡ order ++ v ∷ []
      → new_waiting ≡ waiting ++ v ∷ [] → IsSearch successors (slice_set checked v k) (slice_set marks v true) new_order new_waiting
  visited checked marks order waiting new_order new_waiting v k s less none f all listed pushed =
      let new : count_at (slice_set checked v k) v ≡ k = get_or-set_same checked v k 0 (omega (arith, less, s.counts)) in
      subst (λ (o : List ℕ). IsSearch successors (slice_set checked v k) (slice_set marks v true) o new_waiting) (sym listed)
      (subst (IsSearch successors (slice_set checked v k) (slice_set marks v true) (order ++ v ∷ [])) (sym pushed)
      (marked (slice_set checked v k) marks order waiting v (counted checked marks order waiting v k s less f) less none (new ∙ all)))

  -- a marked node needs no visit
  pub open_skipped : (checked : List ℕ) (marks : List Bool) (waiting due : List ℕ) (v : ℕ) → is_marked marks v ≡ true
      → AreOpen successors checked marks waiting (v ∷ due) → AreOpen successors checked marks waiting due
  open_skipped checked marks waiting due v is opens n less out = elim (opens n less out) [
    | inl here ↦ inl here
    | inr later ↦ elim (Contains-append_cases (v ∷ []) due n later) [
      | inl own ↦ absurd (false≢true (sym out ∙ ap (is_marked marks) (only_in v n own) ∙ is))
      | inr rest ↦ inr rest
    ]
  ]

  -- a visited node is open where it has a successor that isn't marked
  pub open_counted : (checked : List ℕ) (marks : List Bool) (waiting due : List ℕ) (v k : ℕ) → v < length checked → k < length (ways_at successors v)
      → is_marked marks (successor successors v k) ≡ false → AreOpen successors checked marks waiting (v ∷ due)
      → AreOpen successors (slice_set checked v k) marks waiting due
  open_counted checked marks waiting due v k inside below none opens n less out = by_case (eqb n v) refl
    where
      now : List ℕ
      now = slice_set checked v k

      by_case : (z : Bool) → eqb n v ≡ z → IsOpen successors now marks waiting n ⊎ Contains due n
      by_case true e =
          let new : count_at now v ≡ k = get_or-set_same checked v k 0 inside in
          let own : IsOpen successors now marks waiting v =
          (omega (arith, new, below), inl (ap (λ (j : ℕ). is_marked marks (successor successors v j)) new ∙ none)) in
          inl (subst (IsOpen successors now marks waiting) (sym (eqb-true n v e)) own)
      by_case false e = elim (opens n less out) [
        | inl (at, left) ↦ (let old : count_at now n ≡ count_at checked n = get_or-set_other checked v n k 0 (eqb-false n v e) in
            inl (subst (λ (j : ℕ). (j < length (ways_at successors n)) × ((is_marked marks (successor successors n j) ≡ false)
            ⊎ Contains waiting (successor successors n j))) (sym old) (at, left)))
        | inr later ↦ elim (Contains-append_cases (v ∷ []) due n later) [
          | inl own ↦ absurd (eqb-false n v e (only_in v n own))
          | inr rest ↦ inr rest
        ]
      ]

  -- the others are open where a node is marked that waits
  pub open_marked : (checked : List ℕ) (marks : List Bool) (waiting due : List ℕ) (v k : ℕ) → v < length marks
      → AreOpen successors checked marks waiting (v ∷ due) → AreOpen successors (slice_set checked v k) (slice_set marks v true) (waiting ++ v ∷ []) due
  open_marked checked marks waiting due v k inside opens n less out =
      let other = unmarked_other marks v n inside out in
      elim (opens n less other.1) [
        | inl (at, left) ↦ inl (subst (λ (j : ℕ). (j < length (ways_at successors n)) × ((is_marked now (successor successors n j) ≡ false)
            ⊎ Contains (waiting ++ v ∷ []) (successor successors n j))) (sym (get_or-set_other checked v n k 0 other.0)) (
              at,
              kept (successor successors n
                  (count_at checked n)) left,
            ))
        | inr later ↦ elim (Contains-append_cases (v ∷ []) due n later) [
          | inl own ↦ absurd (other.0 (only_in v n own))
          | inr rest ↦ inr rest
        ]
      ]
    where
      now : List Bool
      now = slice_set marks v true

      still : (m : ℕ) → is_marked marks m ≡ false → (z : Bool) → eqb m v ≡ z → (is_marked now m ≡ false) ⊎ Contains (waiting ++ v ∷ []) m
      still m none true e = inr (subst (Contains (waiting ++ v ∷ [])) (sym (eqb-true m v e)) (Contains-push waiting v))
      still m none false e = inl (marked_other marks v m (eqb-false m v e) ∙ none)

      kept : (m : ℕ) → (is_marked marks m ≡ false) ⊎ Contains waiting m → (is_marked now m ≡ false) ⊎ Contains (waiting ++ v ∷ []) m
      kept m (inl none) = still m none (eqb m v) refl
      kept m (inr held) = inr (Contains-append_left waiting (v ∷ []) m held)

  -- ---- the search

  pub begun : (nodes : ℕ) → length successors ≡ nodes → IsSearch successors (replicate nodes 0) (replicate nodes false) [] []
  begun nodes all = record {
    counts = length-replicate nodes 0 ∙ sym all;
    long = length-replicate nodes false ∙ sym all;
    within = λ k d less. absurd (omega arith);
    ordered = record {
      within = λ k d less. absurd (omega arith);
      listed = λ n. (λ held. absurd (none_in held), λ is. absurd (false≢true (sym (no_mark n) ∙ is)));
      once = λ k less. absurd (omega (arith, less));
      behind = λ k m less. absurd (omega (arith, less));
    };
    right = λ n is. absurd (false≢true (sym (no_mark n) ∙ is));
    inside = λ n. omega (arith, no_count n);
    past = λ n k less. absurd (omega (arith, less, no_count n));
  }
    where
      by_place : {X : Type 0} (x : X) (n : ℕ) (z : Bool) → nat_lt n nodes ≡ z → slice_index_or (replicate nodes x) n x ≡ x
      by_place x n true e = get_or-replicate nodes n x x (ltb-true n nodes e)
      by_place x n false e = get_or_past (replicate nodes x) n x (omega (arith, length-replicate nodes x, ltb-false n nodes e))

      no_mark : (n : ℕ) → is_marked (replicate nodes false) n ≡ false
      no_mark n = by_place false n (nat_lt n nodes) refl

      no_count : (n : ℕ) → count_at (replicate nodes 0) n ≡ 0
      no_count n = by_place 0 n (nat_lt n nodes) refl

  -- where all nodes are due
  pub all_due : (checked : List ℕ) (marks : List Bool) (waiting order : List ℕ) → IsOrder (length successors) order
      → AreOpen successors checked marks waiting order
  all_due checked marks waiting order all n less out = inr (all.all n less)

  -- behind a node that waited its predecessors are due
  pub popped : (checked : List ℕ) (marks : List Bool) (waiting rest : List ℕ) (preds : List (List ℕ)) (v : ℕ) → waiting ≡ rest ++ v ∷ []
      → ArePredecessors successors preds → AreOpen successors checked marks waiting [] → AreOpen successors checked marks rest (ways_at preds v)
  popped checked marks waiting rest preds v split p opens n less out = elim (opens n less out) [
    | inl (at, left) ↦ by at left
    | inr none ↦ absurd (none_in none)
  ]
    where
      next : ℕ
      next = successor successors n (count_at checked n)

      due : (count_at checked n < length (ways_at successors n)) → v ≡ next → Contains (ways_at preds v) n
      due at same =
          (p.each v n).1 (subst (IsEdge successors n) (sym same) (Contains-get_or (ways_at successors n) (count_at checked n) 0 at))

      by : (count_at checked n < length (ways_at successors n)) → (is_marked marks next ≡ false) ⊎ Contains waiting next
          → IsOpen successors checked marks rest n ⊎ Contains (ways_at preds v) n
      by at (inl none) = inl (at, inl none)
      by at (inr held) = elim (Contains-push_cases rest v next (subst (λ (w : List ℕ). Contains w next) split held)) [
        | inl stays ↦ inl (at, inr stays)
        | inr same ↦ inr (due at same)
      ]

  pub fewer_waiting : (checked : List ℕ) (marks : List Bool) (order waiting rest : List ℕ) (v : ℕ) → waiting ≡ rest ++ v ∷ []
      → IsSearch successors checked marks order waiting → IsSearch successors checked marks order rest
  fewer_waiting checked marks order waiting rest v split s = record {
    counts = s.counts;
    long = s.long;
    within = λ k d less. subst (λ (x : ℕ). x < length successors) (kept k d less)
        (s.within k d (omega (arith, less, ap length split, length-append rest (v ∷ []))));
    ordered = s.ordered;
    right = s.right;
    inside = s.inside;
    past = s.past;
  }
    where
      kept : (k d : ℕ) → k < length rest → slice_index_or waiting k d ≡ slice_index_or rest k d
      kept k d less = ap (λ (w : List ℕ). slice_index_or w k d) split ∙ get_or_append_left rest (v ∷ []) d k less

  -- the predecessors of a node are nodes
  pub preds_within : (preds : List (List ℕ)) (v : ℕ) → ArePredecessors successors preds → AreBlocks (length successors) (ways_at preds v)
  preds_within preds v p k d less =
      inside (slice_index_or (ways_at preds v) k d) ((p.each v (slice_index_or (ways_at preds v) k d)).0 (Contains-get_or (ways_at preds v) k d less))
      (nat_lt (slice_index_or (ways_at preds v) k d) (length successors)) refl
    where
      inside : (n : ℕ) → IsEdge successors n v → (z : Bool) → nat_lt n (length successors) ≡ z → n < length successors
      inside n edge true e = ltb-true n (length successors) e
      inside n edge false e =
          absurd (none_in (subst (λ (ways : List ℕ). Contains ways v) (get_or_past successors n [] (ltb-false n (length successors) e)) edge))

  -- ---- the end of the search

  -- a node that isn't marked has a successor that isn't
  onward : (checked : List ℕ) (marks : List Bool) (n : ℕ) → IsGraph successors → AreOpen successors checked marks [] [] → n < length successors
      → is_marked marks n ≡ false → (m : ℕ) × IsEdge successors n m × (m < length successors) × (is_marked marks m ≡ false)
  onward checked marks n graph opens less out = elim (opens n less out) [
    | inl (at, inl none) ↦ (let next : ℕ = successor successors n (count_at checked n) in
        let edge : IsEdge successors n next = Contains-get_or (ways_at successors n) (count_at checked n) 0 at in
        (next, edge, All-contains (λ (m : ℕ). m < length successors) (ways_at successors n) next (graph n [] less) edge, none))
    | inl (at, inr held) ↦ absurd (none_in held)
    | inr held ↦ absurd (none_in held)
  ]

  never : (checked : List ℕ) (marks : List Bool) → IsGraph successors → AreOpen successors checked marks [] [] → {n : ℕ} → Ends (IsEdge successors) n
      → n < length successors → is_marked marks n ≡ false → ⊥
  never checked marks graph opens {n} (on each) less out =
      let next = onward checked marks n graph opens less out in
      never checked marks graph opens (each next.0 next.1) next.2 next.3

  pub ended : (checked : List ℕ) (marks : List Bool) (order waiting : List ℕ) → waiting ≡ [] → IsGraph successors
      → IsSearch successors checked marks order waiting → AreOpen successors checked marks waiting [] → AreEnds successors marks
  ended checked marks order waiting none graph s gaps = record {
    long = s.long;
    each = λ n less. (s.right n, λ ends. decided n less ends (is_marked marks n) refl);
  }
    where
      opens : AreOpen successors checked marks [] []
      opens = subst (λ (w : List ℕ). AreOpen successors checked marks w []) none gaps

      decided : (n : ℕ) → n < length successors → Ends (IsEdge successors) n → (z : Bool) → is_marked marks n ≡ z → is_marked marks n ≡ true
      decided n less ends true e = e
      decided n less ends false e = absurd (never checked marks graph opens ends less e)
