-- What holds of the kinds of items holds of them once an end is written anew, if it doesn't hang on where branches go.
use Rattle.std.proofs.Common.{ℕ, List, [], ◌∷◌, map, All, Option, Some, None, Bool, true, false, cond, nat_eq}
use Rattle.std.proofs.lemmas.List.Elements.{All-nil, All-cons, All-head, All-tail, All-append}
use Rattle.mir_func.specs.declared.block.Block.{Block}
use Rattle.mir_func.specs.declared.exit.Exit.{Exit}
use Rattle.mir_func.specs.declared.exit.Exit.TheVariants.{Onward, Perhaps, Always, Final}
use Rattle.mir_func.specs.declared.item.Item.{Item}
use Rattle.mir_func.specs.declared.item.ItemKind.{ItemKind}
use Rattle.mir_func.specs.declared.location.Loc.TheVariants.{Absent}
use Rattle.mir_func.specs.declared.position.Pos.{Pos}
use Rattle.mir_func.specs.declared.position.Origin.TheVariants.{Before}
use Rattle.mir_func.specs.Exits.{exit_of}
use Rattle.fold_targets.specs.Leads.{first_id}
use Rattle.fold_rule.specs.Turned.{to_block, inverse_to, with_code, sent, turned, made_jump}
use Rattle.fold_rule.specs.Tails.{first_of, else_way, is_number, jump_at_end}
use Rattle.fold_rule.specs.Tails.{jump_for_branch, plain_tail, branch_tail_to, tail_by, rewritten}
use Rattle.fold_rule.specs.Rule.{folded_block, staying, folded_blocks}
use Rattle.fold_rule_proof.specs.Kills.{kills, with_kills}
use Rattle.fold_proof.proofs.Placed.{made}

module _ (P : ItemKind → Type 0) (on_sent : (n : ℕ) (k : ItemKind) → P k → P (with_code (to_block n) k))
    (on_turned : (n : ℕ) (k : ItemKind) → P k → P (with_code (inverse_to n) k))
    (on_made : (n : ℕ) → P (made_jump n (Before (record { block = 0; item = 0 })) Absent).kind) where
  abbrev Holds : Item → Type 0
  Holds i = P i.kind

  module _ (end : ℕ → ℕ) (next fall : Option ℕ) (source_end : Pos) where
    one : (x : Item) → Holds x → All Holds (x ∷ [])
    one x h = All-cons Holds x [] h (All-nil Holds)

    needed : (x : Item) → Holds x → (z : Bool) → All Holds (cond z [] (x ∷ []))
    needed x h true = All-nil Holds
    needed x h false = one x h

    jump : (xs : List Item) (n : ℕ) → All Holds xs → Holds (jump_at_end source_end (first_of xs) n)
    jump [] n h = on_made n
    jump (j ∷ xs) n h = on_sent n j.kind (All-head Holds j xs h)

    branch_jump : (x : Item) (xs : List Item) (n : ℕ) → All Holds xs → Holds (jump_for_branch source_end x (first_of xs) n)
    branch_jump x [] n h = on_made n
    branch_jump x (j ∷ xs) n h = on_sent n j.kind (All-head Holds j xs h)

    tests : (x : Item) (xs : List Item) (u v : ℕ) → Holds x → All Holds xs → (q r z s : Bool) →
        All Holds (cond q (cond s [] (jump_for_branch source_end x (first_of xs) v ∷ [])) (cond r (sent u x ∷ [])
        (cond z (turned v x ∷ []) (sent u x ∷ jump_at_end source_end (first_of xs) v ∷ []))))
    tests x xs u v h all true r z s = needed (jump_for_branch source_end x (first_of xs) v) (branch_jump x xs v all) s
    tests x xs u v h all false true z s = one (sent u x) (on_sent u x.kind h)
    tests x xs u v h all false false true s = one (turned v x) (on_turned v x.kind h)
    tests x xs u v h all false false false s =
        All-cons Holds (sent u x) (jump_at_end source_end (first_of xs) v ∷ []) (on_sent u x.kind h) (one (jump_at_end source_end (first_of xs) v)
        (jump xs v all))

    pub anew_holds : (xs : List Item) → All Holds xs → All Holds (rewritten end next fall source_end xs)
    anew_holds [] all = by_fall fall where
      by_fall : (o : Option ℕ) → All Holds (plain_tail end next fall source_end None o)
      by_fall None = All-nil Holds
      by_fall (Some n) = needed (made_jump (end n) (Before source_end) Absent) (on_made (end n)) (is_number next (end n))
    anew_holds (x ∷ xs) all = by_exit (exit_of x.kind) (anew_holds xs (All-tail Holds x xs all)) where
      here : Holds x
      here = All-head Holds x xs all

      by_to : (t : ℕ) (o : Option ℕ) → All Holds (branch_tail_to end next fall source_end x (first_of xs) t o)
      by_to t None = one x here
      by_to t (Some m) = tests x xs (end t) (end m) here (All-tail Holds x xs all) (nat_eq (end t) (end m)) (is_number next (end m)) (is_number next (end t))
          (is_number next (end m))

      by_exit : (q : Exit) → All Holds (rewritten end next fall source_end xs) →
          All Holds (tail_by end next fall source_end q x (first_of xs) (rewritten end next fall source_end xs))
      by_exit Onward rest = All-cons Holds x (rewritten end next fall source_end xs) here rest
      by_exit (Perhaps t) rest = by_to t (else_way (first_of xs) fall)
      by_exit (Always t) rest = needed (sent (end t) x) (on_sent (end t) x.kind here) (is_number next (end t))
      by_exit Final rest = one x here

  -- and of the blocks that are made, where it holds of kills
  pub blocks_hold : (end : ℕ → ℕ) (stays was : ℕ → Bool) (old : List Block) → ((e : ℕ) → All Holds (kills end was old e)) → (bs : List Block) →
      All (λ (b : Block). All Holds b.items) bs → All (λ (b : Block). All Holds b.items) (made end stays was old bs)
  blocks_hold end stays was old killed [] all = All-nil (λ (b : Block). All Holds b.items)
  blocks_hold end stays was old killed (b ∷ bs) all =
      by_test (stays b.id) (blocks_hold end stays was old killed bs (All-tail (λ (b : Block). All Holds b.items) b bs all)) where
        fb : Block
        fb = folded_block end (first_id (staying stays bs)) (first_id bs) b

        by_test : (z : Bool) → All (λ (b : Block). All Holds b.items) (made end stays was old bs) →
            All (λ (b : Block). All Holds b.items) (map (with_kills end was old) (cond z (folded_block end (first_id (staying stays bs)) (first_id bs) b ∷
            folded_blocks end stays bs) (folded_blocks end stays bs)))
        by_test true rest = All-cons (λ (b : Block). All Holds b.items) (with_kills end was old fb) (made end stays was old bs)
            (All-append Holds (kills end was old b.id) fb.items (killed b.id)
            (anew_holds end (first_id (staying stays bs)) (first_id bs) (record { block = b.id; item = b.source_end }) b.items
            (All-head (λ (b : Block). All Holds b.items) b bs all))) rest
        by_test false rest = rest
