use Rattle.std.proofs.Common.{◌≡◌, map, take}
use Rattle.compile_program.proofs.compile.with_code.Given as goal

abbrev pub invariant-loop-index : goal.invariant-loop-index
invariant-loop-index l = (map (λ c. c.source.now) l.compiled.items ≡ map (λ p. p.func) (take l.index l.sources))
    × (map (λ c. c.code.now) l.compiled.items ≡ map (λ f. f.code) (take l.index l.functions))
