-- Of one function folding makes one.
use Rattle.std.proofs.Common.{◌≡◌, ℕ, List, Option, Bool, true, false, IsTrue, refl, sym, ◌∙◌, subst}
use Rattle.mir_func.specs.declared.block.Block.{Block}
use Rattle.pass_trait.specs.Code.{HasOneResult}
use Rattle.fold_targets.specs.Ways.{EndsAt}
use Rattle.fold_targets.specs.Leads.{first_id, lead}
use Rattle.fold_targets.proofs.Ways.{one_end}
use Rattle.fold_rule.specs.Reached.{ways_in, Reached, first, onward}
use Rattle.fold_rule.specs.Rule.{folded_blocks, AreFolded, IsFolded}

pub same_bool : (x y : Bool) → (IsTrue x → IsTrue y) → (IsTrue y → IsTrue x) → x ≡ y
same_bool true true h k = refl
same_bool false false h k = refl
same_bool true false h k = let bad = h refl in cc
same_bool false true h k = let bad = k refl in cc

-- blocks with the same first number and the same ways reach the same
pub reached_same : (bs cs : List Block) (end : ℕ → ℕ) → first_id bs ≡ first_id cs → ((n : ℕ) → ways_in bs n ≡ ways_in cs n) → {n : ℕ} →
    Reached bs end n → Reached cs end n
reached_same bs cs end f w (first e) = first (sym f ∙ e)
reached_same bs cs end f w (onward {b} {n} v r e l) = onward v (reached_same bs cs end f w r) (sym (w b) ∙ e) l

-- two foldings of blocks that lead and go alike have the same ends, and the same blocks stay
pub same_ends : (old old' new new' : List Block) → (a : AreFolded old new) → (b : AreFolded old' new') → ((n : ℕ) → lead old n ≡ lead old' n) →
    a.end ≡ b.end
same_ends old old' new new' a b leads = λ i n. at n i where
  same_lead : lead old ≡ lead old'
  same_lead = λ i n. leads n i

  at : (n : ℕ) → a.end n ≡ b.end n
  at n = one_end (lead old') (subst (λ (f : ℕ → Option ℕ). EndsAt f n (a.end n)) same_lead (a.ends n)) (b.ends n)

pub same_stays : (old old' new new' : List Block) → (a : AreFolded old new) → (b : AreFolded old' new') → a.end ≡ b.end → first_id old ≡ first_id old' →
    ((n : ℕ) → ways_in old n ≡ ways_in old' n) → a.stays ≡ b.stays
same_stays old old' new new' a b e f w = λ i n. at n i where
  to : (n : ℕ) → IsTrue (a.stays n) → IsTrue (b.stays n)
  to n h = (b.reached n).1 (subst (λ (z : ℕ → ℕ). Reached old' z n) e (reached_same old old' a.end f w ((a.reached n).0 h)))

  from : (n : ℕ) → IsTrue (b.stays n) → IsTrue (a.stays n)
  from n h = (a.reached n).1 (subst (λ (z : ℕ → ℕ). Reached old z n) (sym e) (reached_same old' old b.end (sym f) (λ m. sym (w m)) ((b.reached n).0 h)))

  at : (n : ℕ) → a.stays n ≡ b.stays n
  at n = same_bool (a.stays n) (b.stays n) (to n) (from n)

pub one_folded : HasOneResult IsFolded
one_folded f g h (a, p) (b, q) =
    let e : a.end ≡ b.end = same_ends f.blocks f.blocks g.blocks h.blocks a b (λ n. refl) in
    let s : a.stays ≡ b.stays = same_stays f.blocks f.blocks g.blocks h.blocks a b e refl (λ n. refl) in
    let blocks : g.blocks ≡ h.blocks = a.blocks ∙ (λ i. folded_blocks (e i) (s i) f.blocks) ∙ sym b.blocks in
    p ∙ (λ i. record f { blocks = blocks i }) ∙ sym q
