-- What the items of a block become: those of a block that stays stay, but for its end, which is written anew.
use Rattle.std.proofs.Common.{◌≡◌, ◌⊎◌, ℕ, suc, ◌<◌, List, [], ◌∷◌, count_by, All, Option, Some, None, Bool, true, false, cond}
use Rattle.std.proofs.Common.{not, ◌&&◌, nat_eq, refl, sym, ap, subst, inl, inr, arith}
use Rattle.std.proofs.lemmas.List.Elements.{All-head, All-tail}
use Rattle.rv64_instr.specs.declared.place.Place.{Place}
use Rattle.rv64_instr.specs.declared.place.Place.TheVariants.{Register, Slot, Const}
use Rattle.rv64_instr.specs.Instruction.{Instruction}
use Rattle.rv64_instr.specs.DefsAndUses.{sets}
use Rattle.rv64_instr.specs.Row.{Row, Branches, Jumps, row_of}
use Rattle.mir_func.specs.declared.exit.Exit.{Exit}
use Rattle.mir_func.specs.declared.exit.Exit.TheVariants.{Onward, Perhaps, Always, Final}
use Rattle.mir_func.specs.declared.item.Item.{Item}
use Rattle.mir_func.specs.declared.item.ItemKind.{ItemKind}
use Rattle.mir_func.specs.declared.item.ItemKind.TheVariants.{Code, Mark, Phi}
use Rattle.mir_func.specs.declared.location.Loc.{Loc}
use Rattle.mir_func.specs.declared.location.Loc.TheVariants.{Absent}
use Rattle.mir_func.specs.declared.position.Pos.{Pos}
use Rattle.mir_func.specs.declared.position.Origin.{Origin}
use Rattle.mir_func.specs.declared.position.Origin.TheVariants.{Before}
use Rattle.mir_func.specs.declared.variable.MarkValue.{MarkValue}
use Rattle.mir_func.specs.declared.variable.MarkValue.TheVariants.{Nothing, Constant, At, Pair}
use Rattle.mir_func.specs.Exits.{row_exit, exit_of, Leaves}
use Rattle.mir_func.specs.Sound.{IsJumpAtMost, MayFollow, EndsWell, Closes}
use Rattle.mir_func.specs.Positions.{position_of}
use Rattle.sem_mir.specs.Align.{is_code, is_jump, is_jump_row}
use Rattle.pass_trait.specs.Change.{Change}
use Rattle.pass_trait.specs.Rule.{IsJump, item}
use Rattle.pass_trait.specs.Causes.{IsFewer, IsMore}
use Rattle.pass_trait.specs.Debug.{is_other_code, RegisterStays, ValueStays, PlaceStays, Becomes}
use Rattle.pass_trait.specs.Debug.{mark_stays, phi_stays, code_stays, code_unnumbered, jump_stays}
use Rattle.pass_trait.specs.Debug.{code_goes, idle_goes, BecomeAll, over, next as step, added_at_end}
use Rattle.pass_trait.specs.declared.loss.Loss.{Loss}
use Rattle.fold_rule.specs.Turned.{to_block, inverse_to, with_code, sent, turned, made_jump}
use Rattle.fold_rule.specs.Tails.{first_of, else_way, is_number, jump_at_end}
use Rattle.fold_rule.specs.Tails.{jump_for_branch, branch_tail, plain_tail, branch_tail_to, tail_by, rewritten}
use Rattle.fold_rule_proof.proofs.Rows.{Leads, sent_jump, leads_by, leads_always}
use Rattle.fold_rule_proof.proofs.Tails.{goes_else, always_some}
use Rattle.fold_proof.proofs.Folding.{code_leads, branch_no_jump, still_code}
use Rattle.fold_proof.specs.Debug.{fold_debug, IsLostAt}
use Rattle.fold_proof.proofs.Fewer.{weight, count_first, same_origin, Passes, OfCode}

-- ---- rows of ends

no_sets : (r : Row) → Leads (row_exit r) → sets r ≡ []
no_sets (Branches op a b t) h = refl
no_sets (Jumps t) h = refl
no_sets _ h = absurd h

row_jumps : (r : Row) (n : ℕ) → row_exit r ≡ Always n → IsJump r
row_jumps (Jumps t) n e = tt
row_jumps _ n e = cc

jumps_row : (r : Row) (n : ℕ) → row_exit r ≡ Always n → is_jump_row r ≡ true
jumps_row (Jumps t) n e = refl
jumps_row _ n e = cc

other_none : (k : ItemKind) (n : ℕ) → exit_of k ≡ Always n → is_other_code k ≡ false
other_none (Code i m) n e = ap (λ (z : Bool). not z) (jumps_row (row_of i) n e)
other_none (Mark v m) n e = cc
other_none (Phi p m) n e = cc

other_some : (k : ItemKind) (t : ℕ) → exit_of k ≡ Perhaps t → is_other_code k ≡ true
other_some k t e =
    let a = code_leads k (leads_by (exit_of k) t e) in
    let b = branch_no_jump k t e in
    λ i. a i && not (b i)

code_test : OfCode is_code
code_test k e = e

other_test : OfCode is_other_code
other_test k e = ap (λ (z : Bool). z && not (is_jump k)) e

jumps_test : OfCode is_jump
jumps_test (Code i n) e = cc
jumps_test (Mark v m) e = refl
jumps_test (Phi p n) e = refl

module _ (c : Change) (b : ℕ) (unlost : (n : ℕ) (loss : Loss) → IsLostAt c.old (record { block = b; item = n }) loss → ⊥) where
  abbrev Become : ℕ → Item → List Item → Type 0
  Become n = Becomes fold_debug c (record { block = b; item = n })

  abbrev Whole : ℕ → List Item → List Item → Type 0
  Whole n = BecomeAll fold_debug c b n

  register_stays : (r : ℕ) → RegisterStays fold_debug c r
  register_stays r = (λ slot h. h, λ now h. h)

  value_stays : (m : MarkValue) → ValueStays fold_debug c m
  value_stays Nothing = tt
  value_stays (Constant z) = tt
  value_stays (At r) = register_stays r
  value_stays (Pair q) = tt

  place_stays : (p : Option Place) → PlaceStays fold_debug c p
  place_stays None = tt
  place_stays (Some (Register r)) = register_stays r
  place_stays (Some (Slot n)) = tt
  place_stays (Some (Const z)) = tt

  -- it stays, rewritten perhaps
  changed_kind : (h : Instruction → Instruction) (n : ℕ) (k : ItemKind) (o : Origin) (l : Loc) → Become n (item k o l) (item (with_code h k) o l ∷ [])
  changed_kind h n (Code i None) o l = code_unnumbered (λ k z. z)
  changed_kind h n (Code i (Some k)) o l = code_stays (λ why. unlost n _)
  changed_kind h n (Mark v m) o l = mark_stays (λ why. unlost n _) (value_stays m)
  changed_kind h n (Phi p k) o l = phi_stays (λ why. unlost n _) (place_stays p)

  changed : (h : Instruction → Instruction) (n : ℕ) (x : Item) → Become n x (record x { kind = with_code h x.kind } ∷ [])
  changed h n x = changed_kind h n x.kind x.origin x.loc

  kept_kind : (n : ℕ) (k : ItemKind) (o : Origin) (l : Loc) → Become n (item k o l) (item k o l ∷ [])
  kept_kind n (Code i None) o l = code_unnumbered (λ k z. z)
  kept_kind n (Code i (Some k)) o l = code_stays (λ why. unlost n _)
  kept_kind n (Mark v m) o l = mark_stays (λ why. unlost n _) (value_stays m)
  kept_kind n (Phi p k) o l = phi_stays (λ why. unlost n _) (place_stays p)

  kept : (n : ℕ) (x : Item) → Become n x (x ∷ [])
  kept n x = kept_kind n x.kind x.origin x.loc

  -- a jump stays, elsewhere perhaps
  moved_kind : (h : Instruction → Instruction) (n m t : ℕ) (k : ItemKind) (o o' : Origin) (l l' : Loc) → exit_of k ≡ Always m →
      exit_of (with_code h k) ≡ Always t → Become n (item k o l) (item (with_code h k) o' l' ∷ [])
  moved_kind h n m t (Code i k) o o' l l' e d = jump_stays (row_jumps (row_of i) m e) (row_jumps (row_of (h i)) t d) (λ j is why. unlost n _)
  moved_kind h n m t (Mark v k) o o' l l' e d = cc
  moved_kind h n m t (Phi p k) o o' l l' e d = cc

  -- a branch or a jump goes
  gone_kind : (n : ℕ) (k : ItemKind) (o : Origin) (l : Loc) → Leads (exit_of k) → IsFewer c is_code o ⊎ IsFewer c is_other_code o → Become n (item k o l) []
  gone_kind n (Code i None) o l leads less = code_goes (λ k z. z) less
  gone_kind n (Code i (Some k)) o l leads less = idle_goes (no_sets (row_of i) leads) less
  gone_kind n (Mark v m) o l leads less = absurd leads
  gone_kind n (Phi p k) o l leads less = absurd leads

  gone : (n : ℕ) (x : Item) → Leads (exit_of x.kind) → IsFewer c is_code x.origin ⊎ IsFewer c is_other_code x.origin → Become n x []
  gone n x leads less = gone_kind n x.kind x.origin x.loc leads less

  -- a jump is added at the end
  jump_added : (n m : ℕ) (o : Origin) (l : Loc) → IsMore c is_code o ⊎ IsMore c is_jump o → Whole n [] (made_jump m o l ∷ [])
  jump_added n m o l more = added_at_end tt more

  nothing_more : (n : ℕ) (xs : List Item) → xs ≡ [] → Whole n xs []
  nothing_more n [] e = over
  nothing_more n (x ∷ xs) e = cc

  -- less or more code of these origins is less or more of the function
  pub record Counts (ys xs : List Item) : Type 0 where
    pub less : (test : ItemKind → Bool) (o : Origin) → OfCode test → (position_of o).block ≡ b →
        count_by (Passes test o) ys < count_by (Passes test o) xs → IsFewer c test o
    pub more : (test : ItemKind → Bool) (o : Origin) → OfCode test → (position_of o).block ≡ b →
        count_by (Passes test o) xs < count_by (Passes test o) ys → IsMore c test o

  abbrev pub Home : Item → Type 0
  Home i = (position_of i.origin).block ≡ b

  -- an item that passes its own test
  counts : (test : ItemKind → Bool) (x : Item) → test x.kind ≡ true → weight (Passes test x.origin x) ≡ 1
  counts test x e = let o = same_origin x.origin in ap weight (λ i. e i && o i)

  counts_none : (test : ItemKind → Bool) (o : Origin) (y : Item) → test y.kind ≡ false → weight (Passes test o y) ≡ 0
  counts_none test o y e = ap (λ (z : Bool). weight (z && Rattle.pass_trait.specs.Causes.is_origin y.origin o)) e

  fewer_none : (test : ItemKind → Bool) (x : Item) (xs : List Item) → test x.kind ≡ true →
      count_by (Passes test x.origin) [] < count_by (Passes test x.origin) (x ∷ xs)
  fewer_none test x xs e =
      let k = count_first (Passes test x.origin) x xs in
      let one = counts test x e in
      omega (arith, k, one)

  fewer_one : (test : ItemKind → Bool) (x y : Item) (xs : List Item) → test x.kind ≡ true → test y.kind ≡ false →
      count_by (Passes test x.origin) (y ∷ []) < count_by (Passes test x.origin) (x ∷ xs)
  fewer_one test x y xs e d =
      let k = count_first (Passes test x.origin) x xs in
      let l = count_first (Passes test x.origin) y [] in
      let one = counts test x e in
      let two = counts_none test x.origin y d in
      omega (arith, k, l, one, two)

  fewer_after : (x j y : Item) → is_code j.kind ≡ true → is_code y.kind ≡ is_code x.kind → y.origin ≡ x.origin →
      count_by (Passes is_code j.origin) (y ∷ []) < count_by (Passes is_code j.origin) (x ∷ j ∷ [])
  fewer_after x j y e d o =
      let k = count_first (Passes is_code j.origin) x (j ∷ []) in
      let l = count_first (Passes is_code j.origin) j [] in
      let m = count_first (Passes is_code j.origin) y [] in
      let one = counts is_code j e in
      let same : weight (Passes is_code j.origin y) ≡ weight (Passes is_code j.origin x) =
      (λ i. weight (d i && Rattle.pass_trait.specs.Causes.is_origin (o i) j.origin)) in
      omega (arith, k, l, m, one, same)

  fewer_second : (x j : Item) → is_code j.kind ≡ true → count_by (Passes is_code j.origin) [] < count_by (Passes is_code j.origin) (x ∷ j ∷ [])
  fewer_second x j e =
      let k = count_first (Passes is_code j.origin) x (j ∷ []) in
      let l = count_first (Passes is_code j.origin) j [] in
      let one = counts is_code j e in
      omega (arith, k, l, one)

  module _ (end : ℕ → ℕ) (next fall : Option ℕ) (source_end : Pos) where
    abbrev anew : List Item → List Item
    anew xs = rewritten end next fall source_end xs

    abbrev branch_items : (x : Item) (rest : Option Item) (u v : ℕ) (q r z s : Bool) → List Item
    branch_items x rest u v q r z s = cond q (cond s [] (jump_for_branch source_end x rest v ∷ [])) (cond r (sent u x ∷ [])
        (cond z (turned v x ∷ []) (sent u x ∷ jump_at_end source_end rest v ∷ [])))

    -- a branch alone at the end
    branch_alone : (x : Item) (n t u v : ℕ) → exit_of x.kind ≡ Perhaps t → source_end.block ≡ b → Home x → (q r z s : Bool) →
        Counts (branch_items x None u v q r z s) (x ∷ []) → Whole n (x ∷ []) (branch_items x None u v q r z s)
    branch_alone x n t u v e ours home true r z true counted =
        let leads = leads_by (exit_of x.kind) t e in
        step (gone n x leads (inl (counted.less is_code x.origin code_test home (fewer_none is_code x [] (code_leads x.kind leads))))) over
    branch_alone x n t u v e ours home true r z false counted =
        let leads = leads_by (exit_of x.kind) t e in
        let jump : Item = jump_for_branch source_end x None v in
        step (gone n x leads (inr (counted.less is_other_code x.origin other_test home (fewer_one is_other_code x jump [] (other_some x.kind t e) refl))))
        (jump_added (suc n) v x.origin x.loc
        (inr (counted.more is_jump x.origin jumps_test home (fewer_one is_jump jump x [] refl (branch_no_jump x.kind t e)))))
    branch_alone x n t u v e ours home false true z s counted = step (changed (to_block u) n x) over
    branch_alone x n t u v e ours home false false true s counted = step (changed (inverse_to v) n x) over
    branch_alone x n t u v e ours home false false false s counted =
        let same = still_code (to_block u) x.kind in
        step (changed (to_block u) n x) (jump_added (suc n) v (Before source_end) Absent
        (inl (counted.more is_code (Before source_end) code_test ours (fewer_after (sent u x) (jump_at_end source_end None v) x refl (sym same) refl))))

    -- a branch with a jump after it
    branch_jump : (x j : Item) (n t m u v : ℕ) → exit_of x.kind ≡ Perhaps t → exit_of j.kind ≡ Always m → Home x → Home j → (q r z s : Bool) →
        Counts (branch_items x (Some j) u v q r z s) (x ∷ j ∷ []) → Whole n (x ∷ j ∷ []) (branch_items x (Some j) u v q r z s)
    branch_jump x j n t m u v e d home home' true r z true counted =
        let leads = leads_by (exit_of x.kind) t e in
        let code = code_leads j.kind (leads_always (exit_of j.kind) m d) in
        step (gone n x leads (inl (counted.less is_code x.origin code_test home (fewer_none is_code x (j ∷ []) (code_leads x.kind leads)))))
        (step (gone (suc n) j (leads_always (exit_of j.kind) m d) (inl (counted.less is_code j.origin code_test home' (fewer_second x j code)))) over)
    branch_jump x j n t m u v e d home home' true r z false counted =
        let leads = leads_by (exit_of x.kind) t e in
        let went = sent_jump j.kind m v d in
        step (gone n x leads (inr (counted.less is_other_code x.origin other_test home
        (fewer_one is_other_code x (jump_for_branch source_end x (Some j) v) (j ∷ []) (other_some x.kind t e) (other_none (sent v j).kind v went)))))
        (step (moved_kind (to_block v) (suc n) m v j.kind j.origin x.origin j.loc x.loc d went) over)
    branch_jump x j n t m u v e d home home' false true z s counted =
        let code = code_leads j.kind (leads_always (exit_of j.kind) m d) in
        step (changed (to_block u) n x) (step (gone (suc n) j (leads_always (exit_of j.kind) m d)
        (inl (counted.less is_code j.origin code_test home' (fewer_after x j (sent u x) code (still_code (to_block u) x.kind) refl)))) over)
    branch_jump x j n t m u v e d home home' false false true s counted =
        let code = code_leads j.kind (leads_always (exit_of j.kind) m d) in
        step (changed (inverse_to v) n x) (step (gone (suc n) j (leads_always (exit_of j.kind) m d)
        (inl (counted.less is_code j.origin code_test home' (fewer_after x j (turned v x) code (still_code (inverse_to v) x.kind) refl)))) over)
    branch_jump x j n t m u v e d home home' false false false s counted = step (changed (to_block u) n x) (step (changed (to_block v) (suc n) j) over)

    branch_becomes : (x : Item) (xs : List Item) (n t u v : ℕ) → exit_of x.kind ≡ Perhaps t → IsJumpAtMost xs → source_end.block ≡ b → Home x → All Home xs →
        Counts (branch_tail next source_end x (first_of xs) u v) (x ∷ xs) → Whole n (x ∷ xs) (branch_tail next source_end x (first_of xs) u v)
    branch_becomes x [] n t u v e may ours home homes counted =
        branch_alone x n t u v e ours home (nat_eq u v) (is_number next v) (is_number next u) (is_number next v) counted
    branch_becomes x (j ∷ []) n t u v e may ours home homes counted =
        let w = always_some (exit_of j.kind) may in
        branch_jump x j n t w.0 u v e w.1 home (All-head Home j [] homes) (nat_eq u v) (is_number next v) (is_number next u) (is_number next v) counted
    branch_becomes x (j ∷ y ∷ ys) n t u v e may ours home homes counted = absurd may

    pub become : (xs : List Item) (n : ℕ) → source_end.block ≡ b → EndsWell xs → (fall ≡ None → Closes xs) → All Home xs → Counts (anew xs) xs →
        Whole n xs (anew xs)
    become [] n ours ends onto homes counted = by_fall fall counted where
      by_test : (m : ℕ) (z : Bool) → Counts (cond z [] (made_jump m (Before source_end) Absent ∷ [])) [] →
          Whole n [] (cond z [] (made_jump m (Before source_end) Absent ∷ []))
      by_test m true k = over
      by_test m false k = jump_added n m (Before source_end) Absent
          (inl (k.more is_code (Before source_end) code_test ours (fewer_none is_code (made_jump m (Before source_end) Absent) [] refl)))

      by_fall : (o : Option ℕ) → Counts (plain_tail end next fall source_end None o) [] → Whole n [] (plain_tail end next fall source_end None o)
      by_fall None k = over
      by_fall (Some m) k = by_test (end m) (is_number next (end m)) k
    become (x ∷ xs) n ours ends onto homes counted =
        by_exit (exit_of x.kind) refl ends.0 counted (λ o k. become xs (suc n) ours ends.1 o (All-tail Home x xs homes) k) where
          home : Home x
          home = All-head Home x xs homes

          below : exit_of x.kind ≡ Onward → fall ≡ None → Closes xs
          below e none = by_rest xs (onto none) where
            by_rest : (ys : List Item) → Closes (x ∷ ys) → Closes ys
            by_rest [] h = absurd (subst Leaves e h)
            by_rest (y ∷ ys) h = h

          lifted : Counts (x ∷ anew xs) (x ∷ xs) → Counts (anew xs) xs
          lifted k = record {
            less = λ test o code at lt. k.less test o code at
                (let a = count_first (Passes test o) x (anew xs) in let d = count_first (Passes test o) x xs in omega (arith, a, d, lt));
            more = λ test o code at lt. k.more test o code at
                (let a = count_first (Passes test o) x (anew xs) in let d = count_first (Passes test o) x xs in omega (arith, a, d, lt));
          }

          jump_test : (m t : ℕ) → exit_of x.kind ≡ Always t → xs ≡ [] → (z : Bool) → Counts (cond z [] (sent m x ∷ [])) (x ∷ xs) →
              Whole n (x ∷ xs) (cond z [] (sent m x ∷ []))
          jump_test m t e none true k =
              let leads = leads_always (exit_of x.kind) t e in
              step (gone n x leads (inl (k.less is_code x.origin code_test home (fewer_none is_code x xs (code_leads x.kind leads)))))
              (nothing_more (suc n) xs none)
          jump_test m t e none false k = step (changed (to_block m) n x) (nothing_more (suc n) xs none)

          by_to : (t : ℕ) (o : Option ℕ) (m : ℕ) → o ≡ Some m → exit_of x.kind ≡ Perhaps t → IsJumpAtMost xs →
              Counts (branch_tail_to end next fall source_end x (first_of xs) t o) (x ∷ xs) →
              Whole n (x ∷ xs) (branch_tail_to end next fall source_end x (first_of xs) t o)
          by_to t None m e at may k = cc
          by_to t (Some m) m' e at may k = branch_becomes x xs n t (end t) (end m) at may ours home (All-tail Home x xs homes) k

          by_exit : (q : Exit) → exit_of x.kind ≡ q → MayFollow q xs → Counts (tail_by end next fall source_end q x (first_of xs) (anew xs)) (x ∷ xs) →
              ((fall ≡ None → Closes xs) → Counts (anew xs) xs → Whole (suc n) xs (anew xs)) →
              Whole n (x ∷ xs) (tail_by end next fall source_end q x (first_of xs) (anew xs))
          by_exit Onward e may k rest = step (kept n x) (rest (below e) (lifted k))
          by_exit (Perhaps t) e may k rest =
              let w = goes_else x t xs fall e may onto in
              by_to t (else_way (first_of xs) fall) w.0 w.1 e may k
          by_exit (Always t) e may k rest = jump_test (end t) t e may (is_number next (end t)) k
          by_exit Final e may k rest = step (kept n x) (nothing_more (suc n) xs may)
