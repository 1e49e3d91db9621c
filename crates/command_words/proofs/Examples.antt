-- The definition at words that are written out, to be read beside its rules.
use Rattle.std.proofs.Common.{◌≡◌, refl, [], ◌∷◌, Some, None, Ok, Err, codes}
use Rattle.command_words.specs.declared.fault.WordsFault.TheVariants.{Shape, Seed, Cycles}
use Rattle.command_words.specs.Words.{said}
use Rattle.command_words.specs.Asked.{asked_of_run, asked_of_check, number_from, file, generated}

-- four names
four_names : asked_of_run (codes "e" ∷ codes "c" ∷ codes "90" ∷ codes "o" ∷ [])
    ≡ Ok (record { executable = file (codes "e"); config = codes "c"; cycles = 90; order = codes "o" })
unfolding asked_of_run said number_from
four_names = refl

-- the option may stand anywhere
option_among_names : asked_of_run (codes "c" ∷ codes "--generate" ∷ codes "7" ∷ codes "90" ∷ codes "o" ∷ [])
    ≡ Ok (record { executable = generated 7; config = codes "c"; cycles = 90; order = codes "o" })
unfolding asked_of_run said number_from
option_among_names = refl

-- after `--` every word is a name, also a second `--`
names_after_dashes : said (codes "--generate=7" ∷ codes "--" ∷ codes "--" ∷ codes "--generate" ∷ codes "-x" ∷ [])
    ≡ Some (record { names = codes "--" ∷ codes "--generate" ∷ codes "-x" ∷ []; seeds = codes "7" ∷ [] })
unfolding said
names_after_dashes = refl

-- a hyphen alone and the empty word are names, and values
hyphens_alone : said (codes "-" ∷ codes "" ∷ codes "--generate" ∷ codes "-" ∷ [])
    ≡ Some (record { names = codes "-" ∷ codes "" ∷ []; seeds = codes "-" ∷ [] })
unfolding said
hyphens_alone = refl

-- a value that is given with `=` may look like an option, and may be empty
values_after_equals : said (codes "--generate=-5" ∷ codes "--generate=" ∷ []) ≡ Some (record { names = []; seeds = codes "-5" ∷ codes "" ∷ [] })
unfolding said
values_after_equals = refl

-- the option wants a value, which is no option
no_value : said (codes "c" ∷ codes "--generate" ∷ []) ≡ None
unfolding said
no_value = refl

value_like_an_option : said (codes "--generate" ∷ codes "-5" ∷ []) ≡ None
unfolding said
value_like_an_option = refl

-- there is no other option
other_option : said (codes "c" ∷ codes "---" ∷ []) ≡ None
unfolding said
other_option = refl

-- the shape comes before the seed, and the seed before the cycles
shape_first : asked_of_run (codes "--generate" ∷ codes "x" ∷ codes "c" ∷ codes "0" ∷ []) ≡ Err Shape
unfolding asked_of_run said number_from
shape_first = refl

seed_next : asked_of_run (codes "--generate" ∷ codes "4294967296" ∷ codes "c" ∷ codes "0" ∷ codes "o" ∷ []) ≡ Err Seed
unfolding asked_of_run said number_from
seed_next = refl

cycles_last : asked_of_run (codes "--generate" ∷ codes "4294967295" ∷ codes "c" ∷ codes "0" ∷ codes "o" ∷ []) ≡ Err Cycles
unfolding asked_of_run said number_from
cycles_last = refl

-- `rsimcheck`
check_names : asked_of_check (codes "e" ∷ codes "o" ∷ []) ≡ Ok (record { executable = file (codes "e"); order = codes "o" })
unfolding asked_of_check said number_from
check_names = refl

check_twice : asked_of_check (codes "--generate=7" ∷ codes "--generate=7" ∷ codes "o" ∷ []) ≡ Err Shape
unfolding asked_of_check said number_from
check_twice = refl
