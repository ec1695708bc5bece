-- The answers to calls are answers.
use Rattle.std.proofs.Common.{◌≡◌, ℕ, zero, suc, ◌+◌, ◌-◌, ◌^◌, ◌<◌, ◌≤◌, List, [], ◌∷◌, length, All, Bool, true, false, ◌&&◌}
use Rattle.std.proofs.Common.{cond, nat_eq, nat_lt, slice_index, refl, arith}
use Rattle.std.proofs.lemmas.Bool.{ltb-true}
use Rattle.std.proofs.lemmas.List.Elements.{All-nil, All-cons, All-map}
use Rattle.rv64_instr.specs.DefsAndUses.{caller_saved}
use Rattle.sem_mir.specs.State.{IsReply}
use Rattle.run_command.specs.sim_start.InitialMachine.{call_value, call_register, reply_to, replies}

-- registers that all are below 32
abbrev all_low : List ℕ → Bool
all_low [] = true
all_low (r ∷ rs) = nat_lt r 32 && all_low rs

low_if : (rs : List ℕ) → all_low rs ≡ true → All (λ r. r < 32) rs
low_if [] e = All-nil (λ r. r < 32)
low_if (r ∷ rs) e = by_test (nat_lt r 32) refl e (low_if rs) where
  by_test : (z : Bool) → nat_lt r 32 ≡ z → (z && all_low rs) ≡ true → (all_low rs ≡ true → All (λ r. r < 32) rs) → All (λ r. r < 32) (r ∷ rs)
  by_test true lt e rest = All-cons (λ r. r < 32) r rs (ltb-true r 32 lt) (rest e)
  by_test false lt e rest = cc

module _ (values : List ℕ) (small : All (λ v. v < 2 ^ 64) values) where
  value_small : (n : ℕ) → n < 2 ^ 64 → call_value values n < 2 ^ 64
  value_small n lt = by_test (nat_lt (n - 1) (length values)) refl where
    by_test : (z : Bool) → nat_lt (n - 1) (length values) ≡ z → cond z (slice_index values (n - 1)) n < 2 ^ 64
    by_test true e = small (n - 1) 0 (ltb-true (n - 1) (length values) e)
    by_test false e = lt

  register_small : (v r : ℕ) → v < 2 ^ 64 → r < 32 → call_register v r < 2 ^ 64
  register_small v r lt low = by_test (nat_eq r 10) where
    by_test : (z : Bool) → cond z v (2000 + r) < 2 ^ 64
    by_test true = lt
    by_test false = omega (arith, low)

  saved_low : All (λ r. r < 32) caller_saved
  saved_low = low_if caller_saved refl

  reply_is : (n : ℕ) → n < 2 ^ 64 → IsReply (reply_to values n)
  reply_is n lt = record {
    count = refl;
    regs = All-map (λ v. v < 2 ^ 64) (call_register (call_value values n)) caller_saved
        (λ k d inside. register_small (call_value values n) _ (value_small n lt) (saved_low k d inside));
    writes = All-nil _;
    below = All-nil _;
  }

  pub all_replies : (n count : ℕ) → n + count ≤ 2 ^ 64 → All IsReply (replies values n count)
  all_replies n zero le = All-nil IsReply
  all_replies n (suc count) le =
      All-cons IsReply (reply_to values n) (replies values (suc n) count) (reply_is n (omega (arith, le))) (all_replies (suc n) count (omega (arith, le)))
