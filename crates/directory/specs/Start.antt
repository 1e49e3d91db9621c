-- What a home begins with.
use Rattle.std.specs.Prelude.{◌≡◌, ℕ, ◌+◌, ◌*◌, ◌/◌, ◌%◌, ◌^◌, ◌<◌, ◌≤◌, true, List, [], None, slice_index, length}
use Rattle.rsim_base.specs.Limits.{line_room}
use Rattle.elf64_load.specs.Image.{ImageView, byte_at, is_mapped}
use Rattle.machine_config.specs.declared.config.Config.{Config}
use Rattle.memory_contracts.specs.Protocol.Lines.{HomeRecord, Idle, nobody}
use Rattle.directory.specs.Homes.{HomeView}

-- the bytes of a line: those of the image as far as there are addresses, and zeros behind the line
pub record AreFirst (image : ImageView) (line_bytes line : ℕ) (bytes : List ℕ) : Type 0 where
  pub size : length bytes ≡ line_room
  pub small : (k : ℕ) → slice_index bytes k < 256
  pub image_bytes : (k : ℕ) → k < line_bytes → line * line_bytes + k < 2 ^ 64 → slice_index bytes k ≡ byte_at image (line * line_bytes + k)
  pub behind : (k : ℕ) → line_bytes ≤ k → slice_index bytes k ≡ 0

-- some byte of the line is mapped
abbrev pub IsMappedLine : ImageView → ℕ → ℕ → Type 0
IsMappedLine image line_bytes line = (a : ℕ) × (is_mapped image a ≡ true) × (a / line_bytes ≡ line)

-- The line is one of home h, of n: its number leaves h, and some byte of it is mapped.
abbrev pub IsOfHome : ImageView → ℕ → ℕ → ℕ → ℕ → Type 0
IsOfHome image line_bytes n h line = (line % n ≡ h) × IsMappedLine image line_bytes line

-- Nobody has the line or asks for it, and its bytes are the image's.
pub record IsFirst (image : ImageView) (line_bytes line : ℕ) (h : HomeRecord) : Type 0 where
  pub phase : h.phase ≡ Idle
  pub owner : h.owner ≡ None
  pub sharers : h.sharers ≡ nobody
  pub bytes : AreFirst image line_bytes line h.memory

-- The home of node h keeps each of its lines that has a mapped byte, and no other; nobody has any, and nothing waits or is to be sent.
pub record IsStart (image : ImageView) (config : Config) (h : ℕ) (v : HomeView) : Type 0 where
  pub lines : (a : ℕ) → is_mapped image a ≡ true → a / config.line % config.processors ≡ h → v.lines (a / config.line) ≡ true
  pub no_other : (l : ℕ) → v.lines l ≡ true → IsOfHome image config.line config.processors h l
  pub records : (l : ℕ) → v.lines l ≡ true → IsFirst image config.line l (v.records l)
  pub waiting : v.waiting ≡ []
  pub outgoing : v.outgoing ≡ []
  pub at : v.at ≡ h
  pub nodes : v.nodes ≡ config.processors
  pub protocol : v.protocol ≡ config.protocol
  pub latency : v.latency ≡ config.home_latency
