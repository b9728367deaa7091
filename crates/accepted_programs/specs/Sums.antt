-- What is known of registers together: that one has the sum of others, and that the sum of two is at most a number (profile).
-- Words are added modulo 2 ^ 64.
use Rattle.std.specs.Prelude.{ℕ, ℤ, Bool, false, ◌+◌, ◌-◌, ◌%◌, ◌^◌, ◌==◌, ◌&&◌, ◌||◌, nat_lt, not, Option, Some, None, if◌then◌else◌, is_none, max}
use Rattle.std.specs.Option.{option_and_then, option_map_or, option_or}
use Rattle.instruction_set.specs.Instruction.{immediate_word}
use Rattle.instruction_set.specs.declared.instruction.Instruction.{Instruction}
use Rattle.instruction_set.specs.declared.instruction.Instruction.TheVariants.{Arithmetic}
use Rattle.instruction_set.specs.declared.instruction.Source.{Source}
use Rattle.instruction_set.specs.declared.instruction.Source.TheVariants.{Immediate, Register}
use Rattle.instruction_set.specs.declared.operation.Operation.{Operation}
use Rattle.instruction_set.specs.declared.operation.Operation.TheVariants.{Add, Move}
use Rattle.instruction_set.specs.declared.operation.Width.{Width}
use Rattle.instruction_set.specs.declared.operation.Width.TheVariants.{Bits64}
use Rattle.program_meaning.specs.Laws.{changes}
use Rattle.accepted_programs.specs.declared.sums.Fit.{Fit}
use Rattle.accepted_programs.specs.declared.sums.Sum.{Sum}

-- is the source this register?
abbrev pub is_register : ℕ → Source → Bool
is_register r (Register s) = r == s
is_register r (Immediate z) = false

-- ---- a register that has a sum

-- does one of these change a register of a sum?
abbrev pub alters_sum : (ℕ → Bool) → Sum → Bool
alters_sum changes s = changes s.register || changes s.first || option_map_or changes s.second false

-- the sum, unless an instruction changes one of its registers
abbrev pub sum_left : (ℕ → Bool) → Sum → Option Sum
sum_left changes s = if alters_sum changes s then None else Some s

-- after a move from another register: the one has the word of the other
abbrev pub copied : (dst src : ℕ) → Option Sum
copied dst src = if dst == src then None else Some (record { register = dst; first = src; second = None; more = 0 })

-- is this register one of those that are added?
abbrev pub is_added : ℕ → Sum → Bool
is_added r s = (r == s.first) || option_map_or (λ second. r == second) s.second false

-- a sum with one register more, of which it has two at most, or with a number more
abbrev pub with_more : Source → Sum → Option Sum
with_more (Register r) s = if is_none s.second then Some (record s { second = Some r }) else None
with_more (Immediate z) s = Some (record s { more = (s.more + immediate_word z) % 2 ^ 64 })

-- after an addition to the register that has the sum, and is no part of it
abbrev pub grown : (dst : ℕ) → Source → Sum → Option Sum
grown dst source s =
    if (dst == s.register) && not (is_added dst s || is_register dst source) then with_more source s else None

-- the sum that 64-bit arithmetic makes, if it does
abbrev pub computed_sum : Width → Operation → ℕ → Source → Option Sum → Option Sum
computed_sum Bits64 Move dst (Register src) sum = copied dst src
computed_sum Bits64 Add dst source sum = option_and_then (grown dst source) sum
computed_sum width operation dst source sum = None

-- the same of any instruction
abbrev pub made_sum : Instruction → Option Sum → Option Sum
made_sum (Arithmetic width operation dst source) sum = computed_sum width operation dst source sum
made_sum i sum = None

-- after an instruction: the sum that it makes, or the one that was known
abbrev pub sum_behind : Instruction → Option Sum → Option Sum
sum_behind i sum = option_or (made_sum i sum) (option_and_then (sum_left (changes i)) sum)

-- ---- two registers whose sum is at most a number

-- the same, unless an instruction changes one of the two
abbrev pub fit_left : (ℕ → Bool) → Fit → Option Fit
fit_left changes f = if changes f.first || changes f.second then None else Some f

-- the sum of two registers, which is at most a number
abbrev pub fit_of : (most : ℕ) → Sum → Option ℕ → Option Fit
fit_of most s (Some second) = Some (record { first = s.first; second = second; more = s.more; most = most })
fit_of most s None = None

-- with a register in the place of another, unless it is the other one of the two
abbrev pub renamed : (dst src : ℕ) → Fit → Option Fit
renamed dst src f =
    if (src == f.first) && not (dst == f.second) then Some (record f { first = dst }) else
    if (src == f.second) && not (dst == f.first) then Some (record f { second = dst }) else
    None

-- after a move into an argument of emit, R1 or R2: that stands for the register that was moved
abbrev pub moved_fit : (dst src : ℕ) → Fit → Option Fit
moved_fit dst src f = if (dst == 1) || (dst == 2) then renamed dst src f else None

-- after an addition of one of the two to an address that is at most this: that stands for the one
abbrev pub carried : (high : Option ℕ) (dst src : ℕ) → Fit → Option Fit
carried None dst src f = None
carried (Some high) dst src f =
    if nat_lt (f.most + high) (2 ^ 64) && not (dst == src) then renamed dst src (record f { most = f.most + high }) else None

-- after an addition of a number to one of the two, and not both: as much less is added
abbrev pub shifted : (dst : ℕ) (z : ℤ) → Fit → Option Fit
shifted dst z f =
    if ((dst == f.first) || (dst == f.second)) && not (f.first == f.second)
    then Some (record f { more = (f.more + (2 ^ 64 - immediate_word z)) % 2 ^ 64 })
    else None

-- what 64-bit arithmetic makes of the two, if it does, where a destination that is an address is at most this
abbrev pub computed_fit : (high : Option ℕ) → Width → Operation → ℕ → Source → Fit → Option Fit
computed_fit high Bits64 Move dst (Register src) f = moved_fit dst src f
computed_fit high Bits64 Add dst (Register src) f = carried high dst src f
computed_fit high Bits64 Add dst (Immediate z) f = shifted dst z f
computed_fit high width operation dst source f = None

-- two registers whose sum is at most a number on both ways: at most the greater one
abbrev pub join_fits : Fit → Fit → Option Fit
join_fits f g =
    if (f.first == g.first) && (f.second == g.second) && (f.more == g.more)
    then Some (record f { most = max f.most g.most })
    else None

-- the same, if there are some on both
abbrev pub join_fit : Option Fit → Option Fit → Option Fit
join_fit (Some f) (Some g) = join_fits f g
join_fit _ _ = None
