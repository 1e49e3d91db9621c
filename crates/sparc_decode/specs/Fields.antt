-- The fields of an instruction word (SPARC V9, 6.2). Bit 0 is the lowest bit of a word of 32.
use Rattle.std.specs.Prelude.{ℕ, Bool, ◌+◌, ◌-◌, ◌*◌, ◌/◌, ◌%◌, ◌^◌, ◌==◌, ℤ, pos, ◌-ℤ◌, nat_lt, if◌then◌else◌}

-- bits high to low of a word, as a number
abbrev pub bits : ℕ → ℕ → ℕ → ℕ
bits high low word = word / 2 ^ low % 2 ^ (high + 1 - low)

abbrev pub is_set : ℕ → ℕ → Bool
is_set bit word = bits bit bit word == 1

-- a number of this many bits, read as two's complement
abbrev pub signed : ℕ → ℕ → ℤ
signed width n = if nat_lt n (2 ^ (width - 1)) then pos n else pos n -ℤ pos (2 ^ width)

-- which table of forms, and the place in it
abbrev pub op : ℕ → ℕ
op word = bits 31 30 word

abbrev pub op2 : ℕ → ℕ
op2 word = bits 24 22 word

abbrev pub op3 : ℕ → ℕ
op3 word = bits 24 19 word

-- registers
abbrev pub rd : ℕ → ℕ
rd word = bits 29 25 word

abbrev pub rs1 : ℕ → ℕ
rs1 word = bits 18 14 word

abbrev pub rs2 : ℕ → ℕ
rs2 word = bits 4 0 word

-- operand 2 is an immediate
abbrev pub i : ℕ → Bool
i word = is_set 13 word

abbrev pub simm13 : ℕ → ℤ
simm13 word = signed 13 (bits 12 0 word)

abbrev pub simm11 : ℕ → ℤ
simm11 word = signed 11 (bits 10 0 word)

abbrev pub simm10 : ℕ → ℤ
simm10 word = signed 10 (bits 9 0 word)

abbrev pub imm_asi : ℕ → ℕ
imm_asi word = bits 12 5 word

-- shifts: over 64 bits, and the counts of 32 and of 64 bits
abbrev pub x : ℕ → Bool
x word = is_set 12 word

abbrev pub shcnt32 : ℕ → ℕ
shcnt32 word = bits 4 0 word

abbrev pub shcnt64 : ℕ → ℕ
shcnt64 word = bits 5 0 word

-- branches: annul, prediction, conditions
abbrev pub a : ℕ → Bool
a word = is_set 29 word

abbrev pub p : ℕ → Bool
p word = is_set 19 word

abbrev pub cond : ℕ → ℕ
cond word = bits 28 25 word

abbrev pub rcond : ℕ → ℕ
rcond word = bits 27 25 word

-- the condition codes that BPcc looks at, and those of MOVcc and Tcc: 0 icc, 2 xcc
abbrev pub branch_cc : ℕ → ℕ
branch_cc word = bits 21 20 word

abbrev pub low_cc : ℕ → ℕ
low_cc word = bits 12 11 word

-- the conditional moves: the condition, and whether MOVcc looks at the integer condition codes
abbrev pub move_cond : ℕ → ℕ
move_cond word = bits 17 14 word

abbrev pub move_rcond : ℕ → ℕ
move_rcond word = bits 12 10 word

abbrev pub cc2 : ℕ → Bool
cc2 word = is_set 18 word

-- displacements, in words; that of BPr stands in two parts
abbrev pub disp30 : ℕ → ℤ
disp30 word = signed 30 (bits 29 0 word)

abbrev pub disp22 : ℕ → ℤ
disp22 word = signed 22 (bits 21 0 word)

abbrev pub disp19 : ℕ → ℤ
disp19 word = signed 19 (bits 18 0 word)

abbrev pub disp16 : ℕ → ℤ
disp16 word = signed 16 (bits 21 20 word * 2 ^ 14 + bits 13 0 word)

-- the high 22 bits of a word, which SETHI gives
abbrev pub imm22 : ℕ → ℕ
imm22 word = bits 21 0 word

-- MEMBAR: which accesses are ordered, and what completes before
abbrev pub mmask : ℕ → ℕ
mmask word = bits 3 0 word

abbrev pub cmask : ℕ → ℕ
cmask word = bits 6 4 word
