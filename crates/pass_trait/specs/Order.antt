-- The order of a pass's losses.
use Rattle.std.specs.Prelude.{◌≡◌, ◌⊎◌, ℕ, ◌<◌, List, AllPairs}
use Rattle.sem_simulation.specs.mir_func.declared.position.Pos.{Pos}
use Rattle.pass_trait.specs.declared.loss.Reason.{Reason}
use Rattle.pass_trait.specs.declared.loss.Reason.TheVariants.{Removed, WrongPlace, Scratch, Bypassed, Unreachable, NoScratch, CallNamed, EntryLoop, NoSlot}
use Rattle.pass_trait.specs.declared.loss.Lost.{Lost}
use Rattle.pass_trait.specs.declared.loss.Lost.TheVariants.{Number, Mark, Register}
use Rattle.pass_trait.specs.declared.loss.Loss.{Loss}

-- the rank of a reason: reports list losses of one item by it
abbrev pub reason_rank : Reason → ℕ
reason_rank Removed = 0
reason_rank WrongPlace = 1
reason_rank Scratch = 2
reason_rank Bypassed = 3
reason_rank Unreachable = 4
reason_rank NoScratch = 5
reason_rank CallNamed = 6
reason_rank EntryLoop = 7
reason_rank NoSlot = 8

-- order of positions: by block number, then by index in the block
abbrev pub IsEarlier : Pos → Pos → Type 0
IsEarlier p q = (p.block < q.block) ⊎ ((p.block ≡ q.block) × (p.item < q.item))

-- numbers come before debug values, and debug values before registers
abbrev pub ComesBefore : Lost → Lost → Type 0
ComesBefore (Number k) (Number l) = k < l
ComesBefore (Number k) (Mark q) = Unit {0}
ComesBefore (Number k) (Register s) = Unit {0}
ComesBefore (Mark p) (Number l) = ⊥
ComesBefore (Mark p) (Mark q) = IsEarlier p q
ComesBefore (Mark p) (Register s) = Unit {0}
ComesBefore (Register r) (Number l) = ⊥
ComesBefore (Register r) (Mark q) = ⊥
ComesBefore (Register r) (Register s) = r < s

-- losses are ordered by what is lost, and then by the rank of their reasons
abbrev pub LossComesBefore : Loss → Loss → Type 0
LossComesBefore a b = ComesBefore a.what b.what ⊎ ((a.what ≡ b.what) × (reason_rank a.reason < reason_rank b.reason))

-- each loss comes before all later ones, so there are no duplicates
abbrev pub IsInOrder : List Loss → Type 0
IsInOrder losses = AllPairs LossComesBefore losses
