-- The answers of the readers, against what the words say and ask. Only want of memory may come in the place of another.
use Rattle.std.specs.Prelude.{◌≡◌, ℕ, Bool, ◌&&◌, nat_le, if◌then◌else◌, length, codes, slice_get, ⊤, Option, Some, None, Result, Ok, Err, IsSomeAnd}
use Rattle.clap.specs.Words.{first_value, found_of, kind_of}
use Rattle.clap.specs.declared.error.Error.{Error}
use Rattle.clap.specs.declared.error.kind.ErrorKind.{ErrorKind}
use Rattle.clap.specs.declared.error.kind.ErrorKind.TheVariants as kind
use Rattle.clap.specs.declared.parser.matches.ArgMatches.{ArgMatches}
use Rattle.command_words.specs.declared.fault.WordsFault.{WordsFault}
use Rattle.command_words.specs.declared.fault.WordsFault.TheVariants as fault
use Rattle.command_words.specs.declared.fault.BadWords.{BadWords}
use Rattle.command_words.specs.declared.fault.BadWords.TheVariants.{Fault, Memory}
use Rattle.command_words.specs.declared.read.Executable.{Executable}
use Rattle.command_words.specs.declared.read.Executable.TheVariants as source
use Rattle.command_words.specs.declared.read.RunWords.{RunWords}
use Rattle.command_words.specs.declared.read.CheckWords.{CheckWords}
use Rattle.command_words.specs.declared.shape.Origin.{Origin as CodeOrigin}
use Rattle.command_words.specs.declared.shape.Origin.TheVariants as origin
use Rattle.command_words.specs.declared.shape.RunTexts.{RunTexts}
use Rattle.command_words.specs.declared.shape.CheckTexts.{CheckTexts}
use Rattle.command_words.specs.Words.{Text, Said}
use Rattle.command_words.specs.Asked.{Origin, named, seeded, RunShape, CheckShape, AskedExecutable, file, generated, RunAsked, CheckAsked}

-- ---- what was asked

abbrev pub executable_of : Executable → AskedExecutable
executable_of (source.File name) = file name.now
executable_of (source.Generated seed) = generated seed

abbrev pub AsksRun : Result RunAsked WordsFault → Result RunWords BadWords → Type 0
AsksRun want (Ok r) = want ≡ Ok (record { executable = executable_of r.executable; config = r.config.now; cycles = r.cycles; order = r.order.now })
AsksRun want (Err (Fault fault)) = want ≡ Err fault
AsksRun want (Err Memory) = ⊤

abbrev pub AsksCheck : Result CheckAsked WordsFault → Result CheckWords BadWords → Type 0
AsksCheck want (Ok r) = want ≡ Ok (record { executable = executable_of r.executable; order = r.order.now })
AsksCheck want (Err (Fault fault)) = want ≡ Err fault
AsksCheck want (Err Memory) = ⊤

abbrev pub AsksExecutable : Result AskedExecutable WordsFault → Result Executable WordsFault → Type 0
AsksExecutable want (Ok e) = want ≡ Ok (executable_of e)
AsksExecutable want (Err fault) = want ≡ Err fault

-- ---- shapes

abbrev pub origin_of : CodeOrigin → Origin
origin_of (origin.Named name) = named name.now
origin_of (origin.Seeded seed) = seeded seed.now

abbrev pub HasRunShape : Option RunShape → Result RunTexts BadWords → Type 0
HasRunShape want (Ok r) = want ≡ Some (record { executable = origin_of r.executable; config = r.config.now; cycles = r.cycles.now; order = r.order.now })
HasRunShape want (Err (Fault fault.Shape)) = want ≡ None
HasRunShape want (Err (Fault _)) = ⊥
HasRunShape want (Err Memory) = ⊤

abbrev pub HasCheckShape : Option CheckShape → Result CheckTexts BadWords → Type 0
HasCheckShape want (Ok r) = want ≡ Some (record { executable = origin_of r.executable; order = r.order.now })
HasCheckShape want (Err (Fault fault.Shape)) = want ≡ None
HasCheckShape want (Err (Fault _)) = ⊥
HasCheckShape want (Err Memory) = ⊤

-- ---- what `clap` found

abbrev pub cause_of_kind : ErrorKind → BadWords
cause_of_kind kind.OutOfMemory = Memory
cause_of_kind _ = Fault fault.Shape

-- each error but want of memory is one of the words' shape
abbrev pub cause_of : Error → BadWords
cause_of e = cause_of_kind (kind_of e)

-- the names are as many as the command takes, and there is one seed at most
abbrev pub fits : ℕ → ℕ → Said → Bool
fits least most s = nat_le least (length s.names) && (nat_le (length s.names) most && nat_le (length s.seeds) 1)

abbrev pub fitting : ℕ → ℕ → Option Said → Option Said
fitting least most None = None
fitting least most (Some s) = if fits least most s then Some s else None

abbrev pub Settles : ℕ → ℕ → (Said → ArgMatches → Type 0) → Option Said → Result ArgMatches BadWords → Type 0
Settles least most Tells want (Ok m) = IsSomeAnd (fitting least most want) (λ s. Tells s m)
Settles least most Tells want (Err (Fault fault.Shape)) = fitting least most want ≡ None
Settles least most Tells want (Err (Fault _)) = ⊥
Settles least most Tells want (Err Memory) = ⊤

abbrev pub read_at : ArgMatches → Text → Option Text
read_at m id = first_value (found_of m) id

abbrev pub RunTells : Said → ArgMatches → Type 0
RunTells s m = (read_at m (codes "first") ≡ slice_get s.names 0) × (read_at m (codes "second") ≡ slice_get s.names 1)
    × (read_at m (codes "third") ≡ slice_get s.names 2) × (read_at m (codes "fourth") ≡ slice_get s.names 3)
    × (read_at m (codes "generate") ≡ slice_get s.seeds 0)

abbrev pub CheckTells : Said → ArgMatches → Type 0
CheckTells s m = (read_at m (codes "first") ≡ slice_get s.names 0) × (read_at m (codes "second") ≡ slice_get s.names 1)
    × (read_at m (codes "generate") ≡ slice_get s.seeds 0)
