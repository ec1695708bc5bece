-- The end of a bypassed block's chain.
use Rattle.std.specs.Prelude.{ℕ, Option, Some, None, Bool, cond, not, ◌&&◌, nat_eq}
use Rattle.std.specs.Option.{is_some}

-- `end n` is the end of block n's chain, `was n` whether block n is reachable, and `lead n` where it forwards control: the end of
-- the chain, if the block is bypassed
abbrev pub end_past : (end : ℕ → ℕ) (was : ℕ → Bool) (lead : ℕ → Option ℕ) → ℕ → Option ℕ
end_past end was lead n = cond (was n && is_some (lead n) && not (nat_eq n (end n))) (Some (end n)) None
