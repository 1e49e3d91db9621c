-- The limits of the whole simulator, as definitions and proofs name them; code and clauses name the constants.
use Rattle.std.specs.Prelude.{ℕ}
use Rattle.rsim_base.specs.declared.limits.TheConstants.{ARCH_REGISTERS, LINE_ROOM, MAX_IN_FLIGHT, MAX_PROCESSORS, MAX_STEPS, STACKS_START, STACK_BYTES, STACK_COUNT}

-- the most steps that all processors of a run may retire together
abbrev pub max_steps : ℕ
max_steps = MAX_STEPS

abbrev pub max_processors : ℕ
max_processors = MAX_PROCESSORS

-- how many registers a program can name
abbrev pub arch_registers : ℕ
arch_registers = ARCH_REGISTERS

-- the most instructions that a core has in flight
abbrev pub max_in_flight : ℕ
max_in_flight = MAX_IN_FLIGHT

-- the bytes of the longest line
abbrev pub line_room : ℕ
line_room = LINE_ROOM

-- where the stacks begin, the bytes of each, and how many there are
abbrev pub stacks_start : ℕ
stacks_start = STACKS_START

abbrev pub stack_bytes : ℕ
stack_bytes = STACK_BYTES

abbrev pub stack_count : ℕ
stack_count = STACK_COUNT
