-- The order of a machine that has run is accepted.
use Rattle.std.proofs.Common.{◌≡◌, ◌*◌, ◌≤◌, ◌<◌, ℕ, true, List, [], length, map, get_or, sum, Option, None, Some, option_and_then, slice_get, refl, ap, subst, ◌∙◌, arith}
use Rattle.std.specs.List.{All}
use Rattle.std.proofs.lemmas.List.{length-map}
use Rattle.std.proofs.lemmas.List.Sums.{sum-map, sum_by-le}
use Rattle.std.proofs.lemmas.Option.{slice_get-get_or, slice_get_within}
use Rattle.rsim_base.specs.Limits.{max_steps}
use Rattle.rsim_base.specs.Made.{Made}
use Rattle.rsim_base.specs.declared.memory.Access.{Access}
use Rattle.elf64_load.specs.Image.{ImageView}
use Rattle.machine_config.specs.Allowed.{IsAllowed, is_short}
use Rattle.machine_config.specs.declared.config.Config.{Config}
use Rattle.order_certificate.specs.Certificate.{IsCertificate, IsInText}
use Rattle.order_checker.specs.Checked.{accepted}
use Rattle.order_checker.specs.Order.{made_at}
use Rattle.sparc_meaning.specs.Run.{Ran}
use Rattle.cycle_loop.specs.Answers.{all_retired}
use Rattle.cycle_loop.specs.Machine.{CoreView, MachineView}
use Rattle.cycle_loop.specs.Ready.{AreCounted}
use Rattle.cycle_loop.specs.Stands.{Closed}
use Rattle.rsim_top.specs.Accepted.{IsAccepted}
use Rattle.rsim_top.specs.Machine.{accesses_of, certificate_of, counts_of, order_of}
use Rattle.rsim_top.specs.Run.{HasRun}
use Rattle.list_facts.specs.Places.{slice_get_below, slice_get_unmapped}
use Rattle.rsim_top.proofs.Running.{few_cycles, few_steps}
use Rattle.machine_config.specs.Sizes.{AreSizes, sizes_of}

-- ---- counts

all_counted : (cycles : ℕ) (cores : List CoreView) → AreCounted cycles cores → all_retired cores ≤ length cores * cycles
all_counted cycles cores counted = sum_by-le (λ (c : CoreView). c.retired) cycles cores each
  where
    each : All (λ (c : CoreView). c.retired ≤ cycles) cores
    each k d within = (counted k (get_or cores k d) (slice_get-get_or cores k d within)).retired

few_retired : (image : ImageView) (config : Config) (cycles : ℕ) (v : MachineView) → HasRun image config cycles v → AreSizes config → is_short config cycles ≡ true → all_retired v.cores ≤ max_steps
few_retired image config cycles v ran sizes short =
    let all = all_counted v.cycles v.cores ran.counted in
    let within = ran.within in
    let cores : length v.cores * v.cycles ≡ config.processors * v.cycles = ap (λ n. n * v.cycles) ran.count in
    let more : config.processors * v.cycles ≤ config.processors * cycles = grind (arith, within) in
    let few = few_steps config cycles sizes short in
    omega arith

-- ---- accesses

-- the program of an access that was made
record HasMade (runs : List Ran) (p i : ℕ) : Type 0 where
  ran : Ran
  stands : slice_get runs p ≡ Some ran
  within : i < length ran.accesses

has_made : (runs : List Ran) (p i : ℕ) (m : Made) → made_at (map (λ r. r.accesses) runs) p i ≡ Some m → HasMade runs p i
has_made runs p i m is = by_program (slice_get (map (λ (r : Ran). r.accesses) runs) p) refl is
  where
    by_program : (o : Option (List Made)) → slice_get (map (λ (r : Ran). r.accesses) runs) p ≡ o → option_and_then (λ made. slice_get made i) o ≡ Some m → HasMade runs p i
    by_program None at is = absurd cc
    by_program (Some made) at is =
        let from = slice_get_unmapped (λ (r : Ran). r.accesses) runs p made at in
        record { ran = from.0; stands = from.1; within = subst (λ (xs : List Made). i < length xs) from.2 (slice_get_within made i m is) }

in_text : (image : ImageView) (config : Config) (cycles : ℕ) (v : MachineView) → HasRun image config cycles v → AreSizes config → is_short config cycles ≡ true → (closed : Closed image config.model [] v) →
    (j : ℕ) (e : Access) → slice_get (accesses_of v) j ≡ Some e → IsInText e
in_text image config cycles v ran sizes short closed j e at =
    let made = closed.fits.respects.made j e at in
    let has = has_made closed.runs e.node.0 e.index made.0 made.1 in
    let below = slice_get_within closed.runs e.node.0 has.ran has.stands in
    let same : length closed.runs ≡ length v.cores = closed.fits.have_runs ∙ length-map v.cores (λ (c : CoreView). c.retired) in
    let core = slice_get_below v.cores e.node.0 (omega arith) in
    let all : length has.ran.accesses ≡ core.0.accesses = (closed.are_runs e.node.0 core.0 has.ran core.1 has.stands).2 in
    let counted = ran.counted e.node.0 core.0 core.1 in
    let fewer = counted.accesses in
    let retired = counted.retired in
    let number = has.within in
    let within = ran.within in
    let few = few_cycles config cycles sizes short in
    let most = sizes.processors.1 in
    let count = ran.count in
    let told = closed.told j e at in
    record { node = omega arith; index = omega arith; printable = told.printable; loaded = told.loaded; stored = told.stored }

-- ---- the order

is_certificate : (image : ImageView) (config : Config) (cycles : ℕ) (v : MachineView) → HasRun image config cycles v → AreSizes config → is_short config cycles ≡ true → IsCertificate (certificate_of config.model v)
is_certificate image config cycles v ran sizes short =
    let closed = ran.closed config.model in
    let few = few_retired image config cycles v ran sizes short in
    let count = ran.count in
    record {
      some = let some = sizes.processors.0 in omega arith;
      most = let most = sizes.processors.1 in omega arith;
      counts = length-map v.cores (λ (c : CoreView). c.retired);
      few_steps = let same : sum (counts_of v) ≡ all_retired v.cores = sum-map (λ (c : CoreView). c.retired) v.cores in omega arith;
      few_lines = let lines : length (accesses_of v) ≤ all_retired v.cores = closed.few in omega arith;
      in_text = in_text image config cycles v ran sizes short closed;
    }

pub IsAccepted-run : (image : ImageView) (config : Config) (cycles : ℕ) (v : MachineView) → HasRun image config cycles v → IsAllowed config → is_short config cycles ≡ true →
    IsAccepted image (order_of config.model v) (accepted (certificate_of config.model v))
unfolding order_of
IsAccepted-run image config cycles v ran allowed short =
    let closed = ran.closed config.model in
    record {
      order = certificate_of config.model v;
      is = is_certificate image config cycles v ran (sizes_of config allowed) short;
      text_is = refl;
      told_is = refl;
      runs = closed.runs;
      fits = closed.fits;
    }
