-- The shape of a folded function: its blocks, and what its items are.
use Rattle.std.proofs.Common.{◌≡◌, ◌⊎◌, ℕ, suc, ◌*◌, ◌≤◌, List, [], ◌∷◌, ◌++◌, map, length, All, Option, Some, None, Bool, true}
use Rattle.std.proofs.Common.{false, cond, nat_eq}
use Rattle.std.proofs.Common.{refl, sym, ap, ◌∙◌, subst, inl, inr, arith}
use Rattle.std.specs.Prelude.{◌&&◌}
use Rattle.std.proofs.lemmas.List.Elements.{All-nil, All-cons, All-head, All-tail, All-weaker, All-append}
use Rattle.rv64_instr.specs.declared.op.Op.{Op}
use Rattle.rv64_instr.specs.declared.op.Op.TheVariants.{Branch}
use Rattle.rv64_instr.specs.declared.operand.Operand.{Operand}
use Rattle.rv64_instr.specs.Instruction.{Instruction, is_load, is_volatile_load}
use Rattle.rv64_instr.specs.Row.{Row, Branches, Jumps, row_of, row_by}
use Rattle.mir_func.specs.declared.block.Block.{Block}
use Rattle.mir_func.specs.declared.exit.Exit.{Exit}
use Rattle.mir_func.specs.declared.exit.Exit.TheVariants.{Onward, Perhaps, Always, Final}
use Rattle.mir_func.specs.declared.item.Item.{Item}
use Rattle.mir_func.specs.declared.item.ItemKind.{ItemKind}
use Rattle.mir_func.specs.declared.item.ItemKind.TheVariants.{Code, Mark, Phi}
use Rattle.mir_func.specs.declared.location.Loc.TheVariants.{Absent}
use Rattle.mir_func.specs.declared.position.Pos.{Pos}
use Rattle.mir_func.specs.declared.position.Origin.{Origin}
use Rattle.mir_func.specs.declared.position.Origin.TheVariants.{Kept, Before}
use Rattle.mir_func.specs.declared.variable.MarkValue.TheVariants.{Nothing}
use Rattle.mir_func.specs.Exits.{row_exit, exit_of, Leaves}
use Rattle.mir_func.specs.Graph.{Program, Fetch, Here, EndOfBlock, Outside}
use Rattle.mir_func.specs.Sound.{IsJumpAtMost, MayFollow, EndsWell, Closes, LastCloses, OriginIn, ids_of}
use Rattle.mir_func.specs.Positions.{position_of}
use Rattle.sem_mir.specs.Follow.{ItemHasClass, HasClass, RowFits, KindFits, IsVolatile, StaysVolatile, MarkFits, rank, next_rank, InOrder, Among, none}
use Rattle.sem_mir.specs.Follow.{same, left}
use Rattle.rv64_instr.specs.View.{class_of}
use Rattle.rv64_instr.specs.Inverse.{inverse_op, inverse}
use Rattle.sem_mir.specs.InitialState.{first_of as first_number}
use Rattle.fold_targets.specs.Leads.{first_id}
use Rattle.fold_rule.specs.Turned.{aimed, to_block, inverse_to, with_code, sent, turned, made_jump}
use Rattle.fold_rule.specs.Tails.{first_of, else_way, is_number, if_needed, jump_at_end, jump_for_branch, plain_tail, branch_tail_to, tail_by}
use Rattle.fold_rule.specs.Tails.{rewritten}
use Rattle.fold_rule.specs.Rule.{folded_block, staying, folded_blocks}
use Rattle.fold_rule_proof.proofs.Rows.{Leads, IsEnding, branch, jump, is_ending}
use Rattle.fold_rule_proof.proofs.Tails.{goes_else}
use Rattle.fold_rule_proof.specs.Kills.{kills, with_kills}
use Rattle.fold_rule_proof.proofs.Kills.{IsKillKind, IsKill, each_kill}
use Rattle.fold_proof.proofs.Placed.{made_block, made}
use Rattle.fold_proof.proofs.Ways.{always_is}

-- ---- blocks

module _ (end : ℕ → ℕ) (stays was : ℕ → Bool) (old : List Block) where
  abbrev put : Block → Block
  put = with_kills end was old

  pub among_made : {bs src : List Block} → Among bs src → Among (made end stays was old bs) src
  among_made none = none
  among_made (left rest) = left (among_made rest)
  among_made (same {a} {b} {rest} {bs} e s more) = by_test (stays a.id) (among_made more) where
    by_test : (z : Bool) → Among (made end stays was old rest) bs →
        Among (map put (cond z (folded_block end (first_id (staying stays rest)) (first_id rest) a ∷ folded_blocks end stays rest)
        (folded_blocks end stays rest))) (b ∷ bs)
    by_test true h = same e s h
    by_test false h = left h

  pub first_made : (bs : List Block) → ((n : ℕ) → first_id bs ≡ Some n → stays n ≡ true) → first_number (made end stays was old bs) ≡ first_number bs
  first_made [] stay = refl
  first_made (b ∷ bs) stay = by_test (stays b.id) (stay b.id refl) where
    by_test : (z : Bool) → z ≡ true →
        first_number (map put (cond z (folded_block end (first_id (staying stays bs)) (first_id bs) b ∷ folded_blocks end stays bs)
        (folded_blocks end stays bs))) ≡ b.id
    by_test true e = refl
    by_test false e = cc

  -- what holds of each block that stays
  pub each_made : (P Q : Block → Type 0) →
      ((b : Block) (rest : List Block) → P b → (first_id rest ≡ None → Closes b.items) → Q (made_block end stays was old b rest)) →
      (bs : List Block) → All P bs → ((bs ≡ []) ⊎ LastCloses bs) → All Q (made end stays was old bs)
  each_made P Q f [] h last = All-nil Q
  each_made P Q f (b ∷ bs) h last = by_test (stays b.id) (each_made P Q f bs (All-tail P b bs h) (later last)) where
    closing : ((b ∷ bs ≡ []) ⊎ LastCloses (b ∷ bs)) → LastCloses (b ∷ bs)
    closing (inl e) = cc
    closing (inr l) = l

    tail_of : (cs : List Block) → LastCloses (b ∷ cs) → (cs ≡ []) ⊎ LastCloses cs
    tail_of [] l = inl refl
    tail_of (c ∷ cs) l = inr l

    later : ((b ∷ bs ≡ []) ⊎ LastCloses (b ∷ bs)) → (bs ≡ []) ⊎ LastCloses bs
    later l = tail_of bs (closing l)

    onto : (cs : List Block) → LastCloses (b ∷ cs) → first_id cs ≡ None → Closes b.items
    onto [] l e = l
    onto (c ∷ cs) l e = cc

    by_test : (z : Bool) → All Q (made end stays was old bs) →
        All Q (map put (cond z (folded_block end (first_id (staying stays bs)) (first_id bs) b ∷ folded_blocks end stays bs) (folded_blocks end stays bs)))
    by_test true rest = All-cons Q (made_block end stays was old b bs) (made end stays was old bs)
        (f b bs (All-head P b bs h) (onto bs (closing last))) rest
    by_test false rest = rest

among_few : {a b : List Block} → Among a b → length a ≤ length b
among_few none = omega arith
among_few (same e s rest) = let h = among_few rest in omega (arith, h)
among_few (left rest) = let h = among_few rest in omega (arith, h)

pub same_ids : {a b : List Block} → Among a b → length a ≡ length b → ids_of a ≡ ids_of b
same_ids (none {bs}) e = by_list bs e where
  by_list : (cs : List Block) → 0 ≡ length cs → ids_of [] ≡ ids_of cs
  by_list [] e = refl
  by_list (c ∷ cs) e = absurd (omega (arith, e))
same_ids (same {a} {b} {rest} {bs} id s more) e =
    let tail = same_ids more (let k : suc (length rest) ≡ suc (length bs) = e in omega (arith, k)) in
    λ i. id i ∷ tail i
same_ids (left {b} {rest} {bs} more) e = let k : length rest ≡ suc (length bs) = e in let h = among_few more in absurd (omega (arith, k, h))

-- ---- items

-- what holds of items written anew: P stays where what leads elsewhere is sent or turned, and where a jump is made or takes a branch's place
module _ (P : Item → Type 0) (end : ℕ → ℕ) (next fall : Option ℕ) (source_end : Pos) (on_sent : (x : Item) (n : ℕ) → Leads (exit_of x.kind) → P x → P
    (sent n x))
    (on_turned : (x : Item) (n t : ℕ) → exit_of x.kind ≡ Perhaps t → P x → P (turned n x)) (on_made : (n : ℕ) → P (made_jump n (Before source_end) Absent))
    (on_moved : (x j : Item) (t : ℕ) → exit_of x.kind ≡ Perhaps t → P x → Leads (exit_of j.kind) → P (record j { origin = x.origin; loc = x.loc })) where
  leads_perhaps : (e : Exit) (t : ℕ) → e ≡ Perhaps t → Leads e
  leads_perhaps e t h = subst Leads (sym h) tt

  leads_always : (e : Exit) (t : ℕ) → e ≡ Always t → Leads e
  leads_always e t h = subst Leads (sym h) tt

  one : (y : Item) → P y → All P (y ∷ [])
  one y h = All-cons P y [] h (All-nil P)

  needed : (n : ℕ) (y : Item) → P y → All P (if_needed next n y)
  needed n y h = by_test (is_number next n) where
    by_test : (z : Bool) → All P (cond z [] (y ∷ []))
    by_test true = All-nil P
    by_test false = one y h

  last : (xs : List Item) (m n : ℕ) → IsJumpAtMost xs → else_way (first_of xs) fall ≡ Some m → All P xs → P (jump_at_end source_end (first_of xs) n)
  last [] m n may to all = on_made n
  last (j ∷ []) m n may to all = on_sent j n (leads_always (exit_of j.kind) m (always_is (exit_of j.kind) m to)) (All-head P j [] all)
  last (j ∷ y ∷ ys) m n may to all = absurd may

  moved : (x : Item) (t : ℕ) (xs : List Item) (m n : ℕ) → exit_of x.kind ≡ Perhaps t → P x → IsJumpAtMost xs → else_way (first_of xs) fall ≡ Some m →
      P (jump_for_branch source_end x (first_of xs) n)
  moved x t [] m n e h may to = on_moved x (made_jump n (Before source_end) Absent) t e h tt
  moved x t (j ∷ []) m n e h may to =
      on_moved x (sent n j) t e h (leads_always (exit_of (sent n j).kind) n
      (Rattle.fold_rule_proof.proofs.Rows.sent_jump j.kind m n (always_is (exit_of j.kind) m to)))
  moved x t (j ∷ y ∷ ys) m n e h may to = absurd may

  pub all_anew : (xs : List Item) → EndsWell xs → (fall ≡ None → Closes xs) → All P xs → All P (rewritten end next fall source_end xs)
  all_anew [] ends onto all = by_fall fall where
    by_fall : (o : Option ℕ) → All P (plain_tail end next fall source_end None o)
    by_fall None = All-nil P
    by_fall (Some n) = needed (end n) (made_jump (end n) (Before source_end) Absent) (on_made (end n))
  all_anew (x ∷ xs) ends onto all = by_exit (exit_of x.kind) refl ends.0 (λ o. all_anew xs ends.1 o (All-tail P x xs all)) where
    px : P x
    px = All-head P x xs all

    below : exit_of x.kind ≡ Onward → fall ≡ None → Closes xs
    below e over = by_rest xs (onto over) where
      by_rest : (ys : List Item) → Closes (x ∷ ys) → Closes ys
      by_rest [] h = absurd (subst Leaves e h)
      by_rest (y ∷ ys) h = h

    tests : (t m u v : ℕ) → exit_of x.kind ≡ Perhaps t → IsJumpAtMost xs → else_way (first_of xs) fall ≡ Some m → (q r z : Bool) →
        All P (cond q (if_needed next v (jump_for_branch source_end x (first_of xs) v)) (cond r (sent u x ∷ [])
        (cond z (turned v x ∷ []) (sent u x ∷ jump_at_end source_end (first_of xs) v ∷ []))))
    tests t m u v e may to true r z = needed v (jump_for_branch source_end x (first_of xs) v) (moved x t xs m v e px may to)
    tests t m u v e may to false true z = one (sent u x) (on_sent x u (leads_perhaps (exit_of x.kind) t e) px)
    tests t m u v e may to false false true = one (turned v x) (on_turned x v t e px)
    tests t m u v e may to false false false =
        All-cons P (sent u x) (jump_at_end source_end (first_of xs) v ∷ []) (on_sent x u (leads_perhaps (exit_of x.kind) t e) px)
        (one (jump_at_end source_end (first_of xs) v) (last xs m v may to (All-tail P x xs all)))

    by_exit : (e : Exit) → exit_of x.kind ≡ e → MayFollow e xs → ((fall ≡ None → Closes xs) → All P (rewritten end next fall source_end xs)) →
        All P (tail_by end next fall source_end e x (first_of xs) (rewritten end next fall source_end xs))
    by_exit Onward e may rest = All-cons P x (rewritten end next fall source_end xs) px (rest (below e))
    by_exit (Perhaps t) e may rest =
        let w = goes_else x t xs fall e may onto in
        subst (λ (o : Option ℕ). All P (branch_tail_to end next fall source_end x (first_of xs) t o)) (sym w.1)
        (tests t w.0 (end t) (end w.0) e may w.1 (nat_eq (end t) (end w.0)) (is_number next (end w.0)) (is_number next (end t)))
    by_exit (Always n) e may rest = needed (end n) (sent (end n) x) (on_sent x (end n) (leads_always (exit_of x.kind) n e) px)
    by_exit Final e may rest = one x px

-- ---- what may stand where

-- a row of the same class may be kept where the other was
class_fits : (r q : Row) (x : Fetch) → class_of r ≡ class_of q → HasClass r x → HasClass q x
class_fits r q (Here i) e h = by_kind i.kind h where
  by_kind : (k : ItemKind) → ItemHasClass r k → ItemHasClass q k
  by_kind (Code c n) h = h ∙ e
  by_kind (Mark v m) h = h
  by_kind (Phi p n) h = h
class_fits r q (EndOfBlock k n) e h = h
class_fits r q Outside e h = h

module _ (src : Program) (source_end : ℕ) where
  abbrev Fits : ItemKind → Origin → Type 0
  Fits k o = KindFits src k source_end o

  sent_by : (op : Op) (os : List Operand) (n : ℕ) (o : Origin) → IsEnding op os → RowFits src (row_by op os) source_end o →
      RowFits src (row_by op (aimed op n os)) source_end o
  sent_by _ _ n (Kept p) (branch {op} {a} {b} {t} {rest}) h = class_fits (Branches op a b t) (Branches op a b n) (src.fetch p) refl h
  sent_by _ _ n (Before p) branch h = absurd h
  sent_by _ _ n (Kept p) (jump {t} {rest}) h = class_fits (Jumps t) (Jumps n) (src.fetch p) refl h
  sent_by _ _ n (Before p) jump h = h

  turned_by : (op : Op) (os : List Operand) (n t : ℕ) (o : Origin) → IsEnding op os → row_exit (row_by op os) ≡ Perhaps t →
      RowFits src (row_by op os) source_end o → RowFits src (row_by (inverse_op op) (aimed op n os)) source_end o
  turned_by _ _ n t (Kept p) (branch {op} {a} {b} {t = u} {rest}) e h =
      class_fits (Branches op a b u) (Branches (inverse op) a b n) (src.fetch p) refl h
  turned_by _ _ n t (Before p) branch e h = absurd h
  turned_by _ _ n t o jump e h = cc

  moved_by : (op : Op) (os : List Operand) (op' : Op) (os' : List Operand) (t : ℕ) (o : Origin) → IsEnding op os → row_exit (row_by op os) ≡ Perhaps t →
      IsEnding op' os' → RowFits src (row_by op os) source_end o → RowFits src (row_by op' os') source_end o
  moved_by _ _ _ _ t (Kept p) (branch {op} {a} {b} {t = u} {rest}) e (branch {op = q} {a = c} {b = d} {t = v} {rest = more}) h =
      class_fits (Branches op a b u) (Branches q c d v) (src.fetch p) refl h
  moved_by _ _ _ _ t (Kept p) (branch {op} {a} {b} {t = u} {rest}) e (jump {t = v} {rest = more}) h =
      class_fits (Branches op a b u) (Jumps v) (src.fetch p) refl h
  moved_by _ _ _ _ t (Before p) branch e branch h = absurd h
  moved_by _ _ _ _ t (Before p) branch e jump h = absurd h
  moved_by _ _ _ _ t o jump e other h = cc

  leads_of : (e : Exit) (t : ℕ) → e ≡ Perhaps t → Leads e
  leads_of e t h = subst Leads (sym h) tt

  pub sent_fits : (k : ItemKind) (n : ℕ) (o : Origin) → Leads (exit_of k) → Fits k o → Fits (with_code (to_block n) k) o
  sent_fits (Code i m) n o l h = sent_by i.op i.operands n o (is_ending i.op i.operands l) h
  sent_fits (Mark v m) n o l h = absurd l
  sent_fits (Phi p m) n o l h = absurd l

  pub turned_fits : (k : ItemKind) (n t : ℕ) (o : Origin) → exit_of k ≡ Perhaps t → Fits k o → Fits (with_code (inverse_to n) k) o
  turned_fits (Code i m) n t o e h = turned_by i.op i.operands n t o (is_ending i.op i.operands (leads_of (row_exit (row_of i)) t e)) e h
  turned_fits (Mark v m) n t o e h = cc
  turned_fits (Phi p m) n t o e h = cc

  pub moved_fits : (k l : ItemKind) (t : ℕ) (o : Origin) → exit_of k ≡ Perhaps t → Fits k o → Leads (exit_of l) → Fits l o
  moved_fits (Code i m) (Code j n) t o e h l =
      moved_by i.op i.operands j.op j.operands t o (is_ending i.op i.operands (leads_of (row_exit (row_of i)) t e)) e (is_ending j.op j.operands l) h
  moved_fits (Code i m) (Mark v n) t o e h l = absurd l
  moved_fits (Code i m) (Phi p n) t o e h l = absurd l
  moved_fits (Mark v m) l t o e h k = cc
  moved_fits (Phi p m) l t o e h k = cc

-- ---- what ends a block is no load

inverse_loads : (op : Op) → is_load (inverse_op op) ≡ is_load op
inverse_loads (Branch op) = refl
inverse_loads _ = refl

ending_no_load : (op : Op) (os : List Operand) → IsEnding op os → is_load op ≡ false
ending_no_load _ _ (branch {op} {a} {b} {t} {rest}) = refl
ending_no_load _ _ (jump {t} {rest}) = refl

no_volatile : (i : Instruction) → Leads (row_exit (row_of i)) → is_volatile_load i ≡ false
no_volatile i l = ap (λ (b : Bool). b && i.volatile) (ending_no_load i.op i.operands (is_ending i.op i.operands l))

sent_volatile : (src : Program) (k : ItemKind) (n : ℕ) (o : Origin) → StaysVolatile src k o → StaysVolatile src (with_code (to_block n) k) o
sent_volatile src (Code i m) n (Kept p) h = h
sent_volatile src (Code i m) n (Before p) h = tt
sent_volatile src (Mark v m) n o h = tt
sent_volatile src (Phi p m) n o h = tt

turned_volatile : (src : Program) (k : ItemKind) (n : ℕ) (o : Origin) → StaysVolatile src k o → StaysVolatile src (with_code (inverse_to n) k) o
turned_volatile src (Code i m) n (Kept p) h = subst (λ (b : Bool). IsVolatile (b && i.volatile) (src.fetch p)) (sym (inverse_loads i.op)) h
turned_volatile src (Code i m) n (Before p) h = tt
turned_volatile src (Mark v m) n o h = tt
turned_volatile src (Phi p m) n o h = tt

moved_volatile : (src : Program) (k l : ItemKind) (t : ℕ) (o : Origin) → exit_of k ≡ Perhaps t → StaysVolatile src k o → Leads (exit_of l) →
    StaysVolatile src l o
moved_volatile src (Code i m) (Code j n) t (Kept p) e h l =
    subst (λ (b : Bool). IsVolatile b (src.fetch p)) (no_volatile i (subst Leads (sym e) tt) ∙ sym (no_volatile j l)) h
moved_volatile src (Code i m) (Code j n) t (Before p) e h l = tt
moved_volatile src (Code i m) (Mark v n) t o e h l = absurd l
moved_volatile src (Code i m) (Phi p n) t o e h l = absurd l
moved_volatile src (Mark v m) l t o e h k = cc
moved_volatile src (Phi p m) l t o e h k = cc

kill_fits : (src : Program) (source_end : ℕ) (k : ItemKind) (o : Origin) → IsKillKind k → KindFits src k source_end o
kill_fits src source_end (Mark v m) o h = tt
kill_fits src source_end (Phi p n) o h = tt
kill_fits src source_end (Code i n) o h = absurd h

kill_volatile : (src : Program) (k : ItemKind) (o : Origin) → IsKillKind k → StaysVolatile src k o
kill_volatile src (Mark v m) o h = tt
kill_volatile src (Phi p n) o h = tt
kill_volatile src (Code i n) o h = absurd h

kill_marks : (k : ItemKind) (o : Origin) → IsKillKind k → MarkFits k o
kill_marks (Mark v Nothing) o h = tt
kill_marks (Mark v _) o h = absurd h
kill_marks (Phi p n) o h = tt
kill_marks (Code i n) o h = tt

code_marks : (k : ItemKind) (o : Origin) → Leads (exit_of k) → MarkFits k o
code_marks (Code i n) o h = tt
code_marks (Mark v m) o h = absurd h
code_marks (Phi p n) o h = absurd h

-- ---- order

module _ (end : ℕ → ℕ) (next fall : Option ℕ) (source_end : Pos) (b : ℕ) (same_block : source_end.block ≡ b) where
  abbrev Soon : Item → Type 0
  Soon x = next_rank x.origin ≤ 2 * source_end.item

  order_last : (xs : List Item) (n m k : ℕ) → IsJumpAtMost xs → n ≤ 2 * source_end.item → InOrder b n xs →
      InOrder b n (jump_at_end source_end (first_of xs) k ∷ [])
  order_last [] n m k may le o = (same_block, le, tt)
  order_last (j ∷ []) n m k may le o = (o.0, o.1, tt)
  order_last (j ∷ y ∷ ys) n m k may le o = absurd may

  order_needed : (n k : ℕ) (y : Item) → InOrder b n (y ∷ []) → InOrder b n (if_needed next k y)
  order_needed n k y h = by_test (is_number next k) where
    by_test : (z : Bool) → InOrder b n (cond z [] (y ∷ []))
    by_test true = tt
    by_test false = h

  pub order_anew : (xs : List Item) (n : ℕ) → EndsWell xs → (fall ≡ None → Closes xs) → n ≤ 2 * source_end.item → All Soon xs → InOrder b n xs →
      InOrder b n (rewritten end next fall source_end xs)
  order_anew [] n ends onto le soon o = by_fall fall where
    by_fall : (o : Option ℕ) → InOrder b n (plain_tail end next fall source_end None o)
    by_fall None = tt
    by_fall (Some m) = order_needed n (end m) (made_jump (end m) (Before source_end) Absent) (same_block, le, tt)
  order_anew (x ∷ xs) n ends onto le soon o =
      by_exit (exit_of x.kind) refl ends.0
      (λ into. order_anew xs (next_rank x.origin) ends.1 into (All-head Soon x xs soon) (All-tail Soon x xs soon) o.2) where
        below : exit_of x.kind ≡ Onward → fall ≡ None → Closes xs
        below e over = by_rest xs (onto over) where
          by_rest : (ys : List Item) → Closes (x ∷ ys) → Closes ys
          by_rest [] h = absurd (subst Leaves e h)
          by_rest (y ∷ ys) h = h

        tests : (m u v : ℕ) → IsJumpAtMost xs → (q r z : Bool) →
            InOrder b n (cond q (if_needed next v (jump_for_branch source_end x (first_of xs) v)) (cond r (sent u x ∷ [])
            (cond z (turned v x ∷ []) (sent u x ∷ jump_at_end source_end (first_of xs) v ∷ []))))
        tests m u v may true r z = order_needed n v (jump_for_branch source_end x (first_of xs) v) (o.0, o.1, tt)
        tests m u v may false true z = (o.0, o.1, tt)
        tests m u v may false false true = (o.0, o.1, tt)
        tests m u v may false false false = (o.0, o.1, order_last xs (next_rank x.origin) m v may (All-head Soon x xs soon) o.2)

        by_exit : (e : Exit) → exit_of x.kind ≡ e → MayFollow e xs →
            ((fall ≡ None → Closes xs) → InOrder b (next_rank x.origin) (rewritten end next fall source_end xs)) →
            InOrder b n (tail_by end next fall source_end e x (first_of xs) (rewritten end next fall source_end xs))
        by_exit Onward e may rest = (o.0, o.1, rest (below e))
        by_exit (Perhaps t) e may rest =
            let w = goes_else x t xs fall e may onto in
            subst (λ (o : Option ℕ). InOrder b n (branch_tail_to end next fall source_end x (first_of xs) t o)) (sym w.1)
            (tests w.0 (end t) (end w.0) may (nat_eq (end t) (end w.0)) (is_number next (end w.0)) (is_number next (end t)))
        by_exit (Always m) e may rest = order_needed n (end m) (sent (end m) x) (o.0, o.1, tt)
        by_exit Final e may rest = (o.0, o.1, tt)

order_kills : (b : ℕ) (ks xs : List Item) → All (IsKill b) ks → InOrder b 0 xs → InOrder b 0 (ks ++ xs)
order_kills b [] xs h o = o
order_kills b (k ∷ ks) xs h o =
    let origin = (All-head (IsKill b) k ks h).origin in
    let rest = order_kills b ks xs (All-tail (IsKill b) k ks h) o in
    subst (λ (z : Origin). ((position_of z).block ≡ b) × (0 ≤ rank z) × InOrder b (next_rank z) (ks ++ xs)) (sym origin) (refl, omega arith, rest)

-- ---- the three facts of each block that stays

pub record Facts (src : Program) (b : Block) : Type 0 where
  pub ends : EndsWell b.items
  pub order : InOrder b.id 0 b.items
  pub fits : All (λ (i : Item). KindFits src i.kind b.source_end i.origin) b.items
  pub volatile : All (λ (i : Item). StaysVolatile src i.kind i.origin) b.items
  pub marks : All (λ (i : Item). MarkFits i.kind i.origin) b.items
  pub origins : All (λ (i : Item). OriginIn b i.origin) b.items

next_within : (b : Block) (o : Origin) → OriginIn b o → next_rank o ≤ 2 * b.source_end
next_within b (Kept p) h = let k = h.1 in omega (arith, k)
next_within b (Before p) h = let k = h.1 in omega (arith, k)

module _ (end : ℕ → ℕ) (stays was : ℕ → Bool) (old : List Block) (src : Program) where
  abbrev silent_of : Block → Pos
  silent_of b = record { block = b.id; item = b.source_end }

  pub order_made : (b : Block) (rest : List Block) → Facts src b → (first_id rest ≡ None → Closes b.items) →
      InOrder b.id 0 (made_block end stays was old b rest).items
  order_made b rest h onto =
      order_kills b.id (kills end was old b.id) (rewritten end (first_id (staying stays rest)) (first_id rest) (silent_of b) b.items)
      (each_kill end was old b.id)
      (order_anew end (first_id (staying stays rest)) (first_id rest) (silent_of b) b.id refl b.items 0 h.ends onto (omega arith)
      (All-weaker (λ (i : Item). OriginIn b i.origin) (λ (i : Item). next_rank i.origin ≤ 2 * b.source_end) (λ i o. next_within b i.origin o) b.items h.origins)
      h.order)

  pub fits_made : (b : Block) (rest : List Block) → Facts src b → (first_id rest ≡ None → Closes b.items) →
      All (λ (i : Item). KindFits src i.kind b.source_end i.origin) (made_block end stays was old b rest).items
  fits_made b rest h onto =
      All-append P (kills end was old b.id) (rewritten end (first_id (staying stays rest)) (first_id rest) (silent_of b) b.items)
      (All-weaker (IsKill b.id) P (λ i k. kill_fits src b.source_end i.kind i.origin k.kind) (kills end was old b.id) (each_kill end was old b.id))
      (all_anew P end (first_id (staying stays rest)) (first_id rest) (silent_of b) (λ x n l p. sent_fits src b.source_end x.kind n x.origin l p)
      (λ x n t e p. turned_fits src b.source_end x.kind n t x.origin e p) (λ n. refl)
      (λ x j t e p l. moved_fits src b.source_end x.kind j.kind t x.origin e p l)
      b.items h.ends onto h.fits) where
        P : Item → Type 0
        P i = KindFits src i.kind b.source_end i.origin

  pub volatile_made : (b : Block) (rest : List Block) → Facts src b → (first_id rest ≡ None → Closes b.items) →
      All (λ (i : Item). StaysVolatile src i.kind i.origin) (made_block end stays was old b rest).items
  volatile_made b rest h onto =
      All-append P (kills end was old b.id) (rewritten end (first_id (staying stays rest)) (first_id rest) (silent_of b) b.items)
      (All-weaker (IsKill b.id) P (λ i k. kill_volatile src i.kind i.origin k.kind) (kills end was old b.id) (each_kill end was old b.id))
      (all_anew P end (first_id (staying stays rest)) (first_id rest) (silent_of b) (λ x n l p. sent_volatile src x.kind n x.origin p)
      (λ x n t e p. turned_volatile src x.kind n x.origin p) (λ n. tt) (λ x j t e p l. moved_volatile src x.kind j.kind t x.origin e p l)
      b.items h.ends onto h.volatile) where
        P : Item → Type 0
        P i = StaysVolatile src i.kind i.origin

  pub marks_made : (b : Block) (rest : List Block) → Facts src b → (first_id rest ≡ None → Closes b.items) →
      All (λ (i : Item). MarkFits i.kind i.origin) (made_block end stays was old b rest).items
  marks_made b rest h onto =
      All-append P (kills end was old b.id) (rewritten end (first_id (staying stays rest)) (first_id rest) (silent_of b) b.items)
      (All-weaker (IsKill b.id) P (λ i k. kill_marks i.kind i.origin k.kind) (kills end was old b.id) (each_kill end was old b.id))
      (all_anew P end (first_id (staying stays rest)) (first_id rest) (silent_of b) (λ x n l p. sent_marks x.kind n x.origin l)
      (λ x n t e p. turned_marks x.kind n t x.origin e) (λ n. tt) (λ x j t e p l. code_marks j.kind x.origin l)
      b.items h.ends onto h.marks) where
        P : Item → Type 0
        P i = MarkFits i.kind i.origin

        sent_marks : (k : ItemKind) (n : ℕ) (o : Origin) → Leads (exit_of k) → MarkFits (with_code (to_block n) k) o
        sent_marks (Code i m) n o l = tt
        sent_marks (Mark v m) n o l = absurd l
        sent_marks (Phi p m) n o l = absurd l

        turned_marks : (k : ItemKind) (n t : ℕ) (o : Origin) → exit_of k ≡ Perhaps t → MarkFits (with_code (inverse_to n) k) o
        turned_marks (Code i m) n t o l = tt
        turned_marks (Mark v m) n t o l = cc
        turned_marks (Phi p m) n t o l = cc
