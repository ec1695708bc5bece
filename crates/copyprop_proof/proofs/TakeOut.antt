-- A copy that changes nothing goes from a function, without a number or with one that nothing needs.
use Rattle.std.proofs.Common.{◌≡◌, ℕ, zero, suc, List, [], ◌∷◌, ◌++◌, All, false, refl, sym, subst}
use Rattle.std.proofs.lemmas.List.Elements.{All-head, All-tail, All-weaker}
use Rattle.mir_func.specs.declared.debug_substitution.DebugSubstitution.{DebugSubstitution}
use Rattle.mir_func.specs.declared.block.Block.{Block}
use Rattle.mir_func.specs.declared.item.Item.{Item}
use Rattle.mir_func.specs.declared.item.ItemKind.{ItemKind}
use Rattle.mir_func.specs.declared.item.ItemKind.TheVariants.{Code, Mark, Phi}
use Rattle.mir_func.specs.Function.{Function}
use Rattle.mir_func.specs.Graph.{Program, program_of}
use Rattle.mir_func.specs.Resolve.{resolve}
use Rattle.mir_func.specs.Sound.{IsSound}
use Rattle.pass_salvage.specs.Salvage.{with_number, numbered_at}
use Rattle.pass_salvage.proofs.Kin.{kin_itself}
use Rattle.pass_salvage.proofs.Edits.{Edited, pair, out}
use Rattle.pass_edits.proofs.Loose.{Step}
use Rattle.pass_edits.proofs.Edited.{edited_loosely}
use Rattle.pass_edits.specs.Edits.{IsMove, goes}
use Rattle.pass_edits.proofs.Numbers.{IsUnlike, AreUnlike, drops, fewer_same, fewer_behind}
use Rattle.pass_edits.proofs.Sound.{edited_sound}
use Rattle.copyprop_block.specs.declared.roots.Root.{Root}
use Rattle.copyprop_block.specs.Copied.{roots_with}
use Rattle.pass_edits.proofs.Around.{with_block, stays_items, stays_blocks, around, edited_same, edited_above, edited_around}
use Rattle.pass_edits.proofs.Others.{BlocksUnlike, Others, once_around}
use Rattle.copyprop_proof.proofs.RemovedCopyMatch.{IsNoSelfCopy, TakenPair, teaches, passes, TakenOut, takes, taken_edits, taken_allows, TakenCores, taken_keeps}
use Rattle.copyprop_proof.proofs.RemovedCopyMatch.{taken_itself}

-- ---- what is known after items that stay

pub data Taught : List Root → List Item → List Root → Type 0 where
  at_end : {e : List Root} → Taught e [] e
  one_more : {a e : List Root} {x : Item} {xs : List Item} → IsNoSelfCopy x.kind → Taught (roots_with x.kind a) xs e → Taught a (x ∷ xs) e

pub taught_push : (xs : List Item) (x : Item) {a e : List Root} → Taught a xs e → IsNoSelfCopy x.kind → Taught a (xs ++ x ∷ []) (roots_with x.kind e)
taught_push [] x at_end h = one_more h at_end
taught_push (y ∷ xs) x (one_more k rest) h = one_more k (taught_push xs x rest h)

numbered_roots : (n : ℕ) (k : ItemKind) (a : List Root) → roots_with (with_number n k) a ≡ roots_with k a
numbered_roots n (Code i m) a = refl
numbered_roots n (Mark v m) a = refl
numbered_roots n (Phi p m) a = refl

numbered_other : (n : ℕ) (k : ItemKind) → IsNoSelfCopy k → IsNoSelfCopy (with_number n k)
numbered_other n (Code i m) h = h
numbered_other n (Mark v m) h = h
numbered_other n (Phi p m) h = h

pub taught_numbered : (d n : ℕ) (xs : List Item) {a e : List Root} → Taught a xs e → Taught a (numbered_at d n xs) e
taught_numbered d n [] at_end = at_end
taught_numbered zero n (x ∷ xs) {a} {e} (one_more h rest) =
    one_more (numbered_other n x.kind h) (subst (λ (r : List Root). Taught r xs e) (sym (numbered_roots n x.kind a)) rest)
taught_numbered (suc d) n (x ∷ xs) (one_more h rest) = one_more h (taught_numbered d n xs rest)

taught_above : (k : ℕ) (xs ys zs : List Item) {a e : List Root} → Taught a xs e → AreUnlike k xs → Edited (taken_edits k) e ys zs →
    Edited (taken_edits k) a (xs ++ ys) (xs ++ zs)
taught_above k [] ys zs at_end unlike more = more
taught_above k (x ∷ xs) ys zs (one_more h rest) unlike more =
    pair refl (kin_itself x.kind) (teaches (All-head (λ (y : Item). IsUnlike k y.kind) x xs unlike) h)
    (taught_above k xs ys zs rest (All-tail (λ (y : Item). IsUnlike k y.kind) x xs unlike) more)

-- ---- it goes

all_pass : (k : ℕ) (xs : List Item) → AreUnlike k xs → All (λ (x : Item). TakenPair k [] [] x x) xs
all_pass k xs h = All-weaker (λ (x : Item). IsUnlike k x.kind) (λ (x : Item). TakenPair k [] [] x x) (λ x u. passes u) xs h

blocks_pass : (k : ℕ) (bs : List Block) → BlocksUnlike k bs → All (λ (b : Block). All (λ (x : Item). TakenPair k [] [] x x) b.items) bs
blocks_pass k bs h =
    All-weaker (λ (b : Block). All (λ (x : Item). IsUnlike k x.kind) b.items) (λ (b : Block). All (λ (x : Item). TakenPair k [] [] x x) b.items)
    (λ b u. all_pass k b.items u) bs h

out_move : (k : ℕ) (e : List Root) (x : Item) → TakenOut k e [] x → IsMove x.kind
out_move k e x (takes rd s row root number) = (suc rd, s, row)

module _ (f : Function) (above : List Block) (id source_end : ℕ) (behind : List Block) where
  abbrev fn : List Item → Function
  fn items = with_block f above id source_end items behind

  pub take_out : (k : ℕ) (up : List Item) (x : Item) (down : List Item) (e : List Root) (subs : List DebugSubstitution) → IsSound (fn (up ++ x ∷ down)) →
      TakenOut k e []
      x →
      Taught [] up e → Others k above up down behind → Step (fn (up ++ x ∷ down)) subs (fn (up ++ down)) subs
  take_out k up x down e subs sound how taught far =
      let old = fn (up ++ x ∷ down) in
      let new = fn (up ++ down) in
      let fp : Program = program_of false old.blocks (resolve subs) in
      let gp : Program = program_of false new.blocks (resolve subs) in
      let sound' : IsSound new =
      edited_sound old new sound refl refl
      (edited_around above id source_end (up ++ x ∷ down) (up ++ down) behind (edited_above up (x ∷ down) down (goes (out_move k e x how) (edited_same down))))
      (once_around f above id source_end behind (up ++ x ∷ down) (up ++ down) (fewer_behind up (x ∷ down) down (drops (fewer_same down))) sound.numbers) in
      record {
        sound = sound';
        follows = edited_loosely (taken_edits k) (TakenCores fp gp refl refl (λ q. refl) k) (taken_allows k) old new sound sound' subs subs refl
            (around (taken_edits k) above id source_end (up ++ x ∷ down) (up ++ down)
            (stays_blocks (taken_edits k) (λ n. tt) above (blocks_pass k above far.above))
            (taught_above k up (x ∷ down) down taught far.up (out how (stays_items (taken_edits k) [] down tt (all_pass k down far.down))))
            (stays_blocks (taken_edits k) (λ n. tt) behind (blocks_pass k behind far.behind)))
            (taken_keeps fp gp refl refl (λ q. refl) k) (λ n c h. taken_itself fp gp refl refl (λ q. refl) k c h);
      }
