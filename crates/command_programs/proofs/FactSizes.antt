-- How many bytes facts take.
use Rattle.std.proofs.Common.{ℕ, ◌+◌, ◌*◌, ◌-◌, ◌%◌, ◌^◌, ◌<◌, ◌≤◌, max, arith}
use Rattle.std.proofs.Math.Nat.{mod-le}
use Rattle.program_interface.specs.declared.registers.TheConstants.{REGISTERS}
use Rattle.accepted_programs.specs.declared.facts.TheConstants.{CELLS}
use prog.Memory.{pad, up}

pad_most : (k e : ℕ) → pad k e ≤ k
pad_most k e = omega (arith, mod-le (k - e % k) k)

-- registers, cells of which each takes an alignment and this many bytes, and behind these 8, 24 and 32 bytes
rows_fit : (size align option_align cell : ℕ) → size < 2 ^ 32 → align < 2 ^ 32 → option_align < 2 ^ 32 → cell < 2 ^ 34
    → up (max align (max option_align 8))
    (up 8 (up 8 (up 8 (up option_align (up align 0 + REGISTERS * size) + CELLS * up option_align cell) + 8) + 24) + 32) < 2 ^ 63
rows_fit size align option_align cell few small option_small short =
    let front = up option_align (up align 0 + REGISTERS * size) in
    let cells = up 8 (front + CELLS * up option_align cell) in
    let sum = up 8 (cells + 8) in
    let all = up 8 (sum + 24) in
    omega (
      arith,
      few,
      small,
      option_small,
      short,
      pad_most align 0,
      pad_most option_align (up align 0 + REGISTERS * size),
      pad_most option_align cell,
      pad_most 8 (front + CELLS * up option_align cell),
      pad_most 8 (cells + 8),
      pad_most 8 (sum + 24),
      pad_most (max align (max option_align 8)) (all + 32),
    )

pub facts_fit : (size align : ℕ) → size < 2 ^ 32 → align < 2 ^ 32
    → up (max align (max (max 1 (max (max align 1) 1)) 8))
    (up 8 (up 8 (up 8 (up (max 1 (max (max align 1) 1)) (up align 0 + REGISTERS * size) + CELLS * up (max 1 (max (max align 1) 1)) (max 1 (max (up align 1 + size) 1))) + 8) + 24) + 32)
    < 2 ^ 63
facts_fit size align few small =
    rows_fit size align (max 1 (max (max align 1) 1)) (max 1 (max (up align 1 + size) 1)) few small (omega (arith, small))
    (omega (arith, few, small, pad_most align 1))
