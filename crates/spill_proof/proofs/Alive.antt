-- What is live at the start, with and without debug items.
use Rattle.std.proofs.Common.{◌≡◌, ◌↔◌, ℕ, List, [], ◌∷◌, None, false, refl, sym, subst}
use Rattle.rv64_instr.specs.declared.place.Place.TheVariants.{Register}
use Rattle.mir_func.specs.declared.block.Block.{Block}
use Rattle.mir_func.specs.Function.{Function}
use Rattle.mir_func.specs.Graph.{program_of, block_start}
use Rattle.mir_func.specs.Strip.{stripped_blocks, stripped}
use Rattle.sem_mir.specs.InitialState.{first_of}
use Rattle.sem_mir.specs.Live.{Live}
use Rattle.spill_select.proofs.pass_liveness.Stripped.{live_stripped}
use Rattle.spill_select.specs.spill_rule.Rule.{IsLiveIn}
use Rattle.spill_proof.specs.Alive.{AliveAlike, AliveBare}

first_bare : (bs : List Block) → first_of (stripped_blocks bs) ≡ first_of bs
first_bare [] = refl
first_bare (b ∷ bs) = refl

abbrev LiveAt : Function → ℕ → ℕ → Type 0
LiveAt f r n = Live (program_of false f.blocks (λ q. None)) (Register r) (block_start n)

bare_on : (f : Function) (r : ℕ) → IsLiveIn f r ↔ IsLiveIn (stripped f) r
bare_on f r =
    let h = live_stripped false false f.blocks (λ q. None) (λ q. None) (Register r) (first_of f.blocks) in
    let e = first_bare f.blocks in (
      λ l. subst (LiveAt (stripped f) r) (sym e) (h.0 l),
      λ l. h.1 (subst (LiveAt (stripped f) r) e l),
    )

pub alive_bare : AliveBare
alive_bare reserve live f decides r k = (
  λ t. (bare_on f r).0 ((decides r k).0 t),
  λ l. (decides r k).1 ((bare_on f r).1 l),
)

pub alive_alike : AliveAlike
alive_alike reserve live f g same decides r k = (
  λ t. (bare_on g r).1 (subst (λ (h : Function). IsLiveIn h r) (sym same) ((bare_on f r).0 ((decides r k).0 t))),
  λ l. (decides r k).1 ((bare_on f r).1 (subst (λ (h : Function). IsLiveIn h r) same ((bare_on g r).0 l))),
)
