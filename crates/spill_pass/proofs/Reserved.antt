-- The reserve is one.
use Rattle.std.proofs.Common.{◌≡◌, inl, inr, ℕ, zero, suc, ◌+◌, ◌<◌, ◌≤◌, List, length, Contains, slice_index, arith}
use Rattle.std.proofs.lemmas.List.Kept.{AllPairs-filter, AllPairs-from_increasing}
use Rattle.rv64_instr.specs.Reserve.{RESERVABLE}
use Rattle.spill_proof.specs.spill_select.Incoming.{is_among}
use Rattle.spill_proof.specs.spill_rule.Chosen.{IsReservable}
use Rattle.spill_proof.proofs.spill_rule.Scratch.{kept_by}
use Rattle.spill_proof.specs.Causes.{IsAscending}
use Rattle.spill_proof.specs.Kept.{IsReserve}
use Rattle.spill_pass.specs.Reserve.{reserve_of}

low : (r v : ℕ) → v ≡ r → 8 ≤ v → v ≤ 9 → IsReservable r
low r v e a b = inl (omega (arith, e, a), omega (arith, e, b))

high : (r v : ℕ) → v ≡ r → 18 ≤ v → v ≤ 27 → IsReservable r
high r v e a b = inr (omega (arith, e, a), omega (arith, e, b))

real : (r : ℕ) → Contains RESERVABLE r → IsReservable r
real r (zero, lt, e) = low r 8 e (omega arith) (omega arith)
real r (suc zero, lt, e) = low r 9 e (omega arith) (omega arith)
real r (suc (suc zero), lt, e) = high r 18 e (omega arith) (omega arith)
real r (suc (suc (suc zero)), lt, e) = high r 19 e (omega arith) (omega arith)
real r (suc (suc (suc (suc zero))), lt, e) = high r 20 e (omega arith) (omega arith)
real r (suc (suc (suc (suc (suc zero)))), lt, e) = high r 21 e (omega arith) (omega arith)
real r (suc (suc (suc (suc (suc (suc zero))))), lt, e) = high r 22 e (omega arith) (omega arith)
real r (suc (suc (suc (suc (suc (suc (suc zero)))))), lt, e) = high r 23 e (omega arith) (omega arith)
real r (suc (suc (suc (suc (suc (suc (suc (suc zero))))))), lt, e) = high r 24 e (omega arith) (omega arith)
real r (suc (suc (suc (suc (suc (suc (suc (suc (suc zero)))))))), lt, e) = high r 25 e (omega arith) (omega arith)
real r (suc (suc (suc (suc (suc (suc (suc (suc (suc (suc zero))))))))), lt, e) = high r 26 e (omega arith) (omega arith)
real r (suc (suc (suc (suc (suc (suc (suc (suc (suc (suc (suc zero)))))))))), lt, e) = high r 27 e (omega arith) (omega arith)
real r (suc (suc (suc (suc (suc (suc (suc (suc (suc (suc (suc (suc k))))))))))), lt, e) = absurd (omega (arith, lt))

ascending : IsAscending RESERVABLE
ascending = AllPairs-from_increasing RESERVABLE next where
  next : (k : ℕ) → k + 1 < length RESERVABLE → slice_index RESERVABLE k < slice_index RESERVABLE (k + 1)
  next zero lt = omega arith
  next (suc zero) lt = omega arith
  next (suc (suc zero)) lt = omega arith
  next (suc (suc (suc zero))) lt = omega arith
  next (suc (suc (suc (suc zero)))) lt = omega arith
  next (suc (suc (suc (suc (suc zero))))) lt = omega arith
  next (suc (suc (suc (suc (suc (suc zero)))))) lt = omega arith
  next (suc (suc (suc (suc (suc (suc (suc zero))))))) lt = omega arith
  next (suc (suc (suc (suc (suc (suc (suc (suc zero)))))))) lt = omega arith
  next (suc (suc (suc (suc (suc (suc (suc (suc (suc zero))))))))) lt = omega arith
  next (suc (suc (suc (suc (suc (suc (suc (suc (suc (suc zero)))))))))) lt = omega arith
  next (suc (suc (suc (suc (suc (suc (suc (suc (suc (suc (suc k))))))))))) lt = absurd (omega (arith, lt))

pub is_reserve : (registers : List ℕ) → IsReserve (reserve_of registers)
is_reserve registers = record {
  ascending = AllPairs-filter (λ (r s : ℕ). r < s) (is_among registers) RESERVABLE ascending;
  real = λ r k. real r (kept_by (is_among registers) RESERVABLE r k).0;
}
