use Rattle.std.proofs.Common.{◌≡◌, ◌∙◌, ap, inl, inr, List, subst, ℕ}
use Rattle.std.specs.Prelude.{Option, None, Some, Result, Ok, map}
use Rattle.std.specs.String.{string_bytes}
use Rattle.std.specs.declared.alloc.AllocError.{AllocError}
use Rattle.nf_base.specs.declared.rows.Row.{Row}
use Rattle.nf_command.proofs.Readings.{generate_is_read, init_is_read, serve_is_read, sweep_is_read}
use Rattle.nf_command.specs.Command.{IsBatch, IsGenerate, IsInit, IsServe, IsSweep}
use Rattle.nf_command.specs.First.{first_rows, init_rows}
use Rattle.nf_command.specs.Reading.{IsInitOf, ReadsCommand}
use Rattle.nf_command.specs.declared.command.Command.{Command}
use Rattle.nf_command.specs.declared.command.Command.TheVariants as commands
use Rattle.nf_command.specs.declared.command.Init.{Init}
use Rattle.nf_outside.specs.Lent.{lent, takes}
use Rattle.filesd.specs.Doors.{RunsDoors}
use Rattle.filesd.specs.Generate.{Generates}
use Rattle.filesd.specs.Init.{Inits}
use Rattle.filesd.specs.Outside.{outlet, outlet_with}
use Rattle.filesd.specs.Sweep.{reads_clock}
use Rattle.filesd.specs.declared.status.Status.{Status}
use Rattle.filesd.proofs.Beginning.{inits_beside, rows_are}
use Rattle.filesd.proofs.Generated.{GenerateSays, generate_keeps, generate_says, generate_well, generates_beside, init_risen, rose_risen}
use Rattle.filesd.proofs.Ending.{batch_well, init_well, serve_well, sweep_well}
use Rattle.filesd.proofs.Working.{Says, runs_say}
use Rattle.filesd.proofs.OneFile.{serves_one}
use Rattle.filesd.proofs.Safe.{batch_keeps, init_keeps, serve_keeps, sweep_keeps}
use Rattle.filesd.proofs.Serving.{runs_door, runs_read, runs_store, runs_words, runs_write}
use Rattle.filesd.proofs.Swept.{SweepSays, sweep_says, sweeps_beside}
use Rattle.filesd.proofs.running.run.Goals as goal

-- the words are those of the command that was read
reads_as : (words : List (List ℕ)) (read : Result (Option Command) AllocError) (some : Option Command) (command is : Command)
    → ReadsCommand words read → read ≡ Ok some → some ≡ Some command → command ≡ is → ReadsCommand words (Ok (Some is))
reads_as words read some command is reads first second third =
    subst (λ (r : Result (Option Command) AllocError). ReadsCommand words r)
    (first ∙ ap (λ (o : Option Command). Ok o) (second ∙ ap (λ (k : Command). Some k) third)) reads

-- words are of one command alone
batch_or_sweep : (words : List (List ℕ)) → IsBatch words → IsSweep words → ⊥
batch_or_sweep words batch sweep = cc (sweep_is_read words (Ok (Some commands.Batch)) sweep batch)

serve_or_sweep : (words : List (List ℕ)) (n : ℕ) → IsServe words n → IsSweep words → ⊥
serve_or_sweep words n serve sweep = cc (sweep_is_read words (Ok (Some (commands.Serve n))) sweep serve)

pub returns-in-Ok-Some-Batch-clause-one_file : goal.returns-in-Ok-Some-Batch-clause-one_file
returns-in-Ok-Some-Batch-clause-one_file g c = λ batch.
    serves_one (takes g.C.Clock.reads g.Q.Dice.draws) _ _ c.batch.result.status c.batch.result.site c.batch.ensures.runs c.batch.ensures.alone

pub returns-in-Ok-Some-Batch-clause-words : goal.returns-in-Ok-Some-Batch-clause-words
returns-in-Ok-Some-Batch-clause-words g c = λ is.
    absurd (runs_words (takes g.C.Clock.reads g.Q.Dice.draws) _ _ c.batch.result.status c.batch.result.site c.batch.ensures.runs is)

pub returns-in-Ok-Some-Batch-clause-door : goal.returns-in-Ok-Some-Batch-clause-door
returns-in-Ok-Some-Batch-clause-door g c = λ is.
    absurd (runs_door (takes g.C.Clock.reads g.Q.Dice.draws) _ _ c.batch.result.status c.batch.result.site c.batch.ensures.runs is)

pub returns-in-Ok-Some-Batch-clause-read : goal.returns-in-Ok-Some-Batch-clause-read
returns-in-Ok-Some-Batch-clause-read g c =
    runs_read (takes g.C.Clock.reads g.Q.Dice.draws) _ _ c.batch.result.status c.batch.result.site c.batch.ensures.runs

pub returns-in-Ok-Some-Batch-clause-write : goal.returns-in-Ok-Some-Batch-clause-write
returns-in-Ok-Some-Batch-clause-write g c =
    runs_write (takes g.C.Clock.reads g.Q.Dice.draws) _ _ c.batch.result.status c.batch.result.site c.batch.ensures.runs

pub returns-in-Ok-Some-Batch-clause-store : goal.returns-in-Ok-Some-Batch-clause-store
returns-in-Ok-Some-Batch-clause-store g c = λ _. runs_store (takes g.C.Clock.reads g.Q.Dice.draws) _ _ c.batch.result.status c.batch.result.site c.batch.ensures.runs

pub returns-in-Ok-Some-Batch-clause-store_risen : goal.returns-in-Ok-Some-Batch-clause-store_risen
returns-in-Ok-Some-Batch-clause-store_risen g c = λ is. rose_risen _ _ ((runs_store (takes g.C.Clock.reads g.Q.Dice.draws) _ _ c.batch.result.status c.batch.result.site c.batch.ensures.runs) is)

pub returns-in-Ok-Some-Batch-clause-batch_well : goal.returns-in-Ok-Some-Batch-clause-batch_well
returns-in-Ok-Some-Batch-clause-batch_well g c = λ batch.
    batch_well (takes g.C.Clock.reads g.Q.Dice.draws) _ _ c.batch.result.status c.batch.result.site c.batch.ensures.runs c.batch.ensures.room

pub returns-in-Ok-Some-Init-clause-init : goal.returns-in-Ok-Some-Init-clause-init
returns-in-Ok-Some-Init-clause-init g c = λ name token quota is.
    let init = c.in-Ok-Some-Init.init in
    let words = map string_bytes c.args.words.now in
    let read : ReadsCommand words (Ok (Some (commands.Init init))) =
    subst (λ (command : Command). ReadsCommand words (Ok (Some command))) c.in-Ok-Some-Init.field-0-0-is
    (subst (λ (command : Option Command). ReadsCommand words (Ok command)) c.in-Ok-Some-Init.field-0-is
    (subst (λ (read : Result (Option Command) AllocError). ReadsCommand words read) c.in-Ok-Some-Init.is c.command_of.ensures)) in
    let gives = init_is_read words name token quota (Ok (Some (commands.Init init))) is read in
    let rows = rows_are init.name init.token init.quota name token quota gives.0 gives.1 gives.2 in
    inits_beside (g.S.Ends.left c.args.input.now) (g.S.Ends.read_faults c.args.input.now) (lent c.args.clock.now c.args.dice.now) (init_rows name token quota) _ _
    c.initialize.result.status c.initialize.result.site
    (subst (λ (these : List Row). Inits these
    (outlet g.O.Ends g.K.Keeper c.args.output.now c.args.keeper)
    (outlet g.O.Ends g.K.Keeper c.initialize.new.output c.initialize.result.keeper)
    c.initialize.result.status c.initialize.result.site) rows c.initialize.ensures.inits)

pub returns-in-Ok-Some-Init-clause-init_well : goal.returns-in-Ok-Some-Init-clause-init_well
returns-in-Ok-Some-Init-clause-init_well g c = λ name token quota is.
    init_well (init_rows name token quota) _ _ c.initialize.result.status c.initialize.result.site
    (returns-in-Ok-Some-Init-clause-init g c name token quota is)

pub returns-in-Ok-Some-Serve-clause-serve_well : goal.returns-in-Ok-Some-Serve-clause-serve_well
returns-in-Ok-Some-Serve-clause-serve_well g c = λ is.
    serve_well g.K.Keeper g.D.Source.Ends g.D.Sink.Ends (takes g.W.Clock.reads g.V.Dice.draws) g.D.Door c.args.keeper c.serve_doors.result.keeper
    c.args.workers.now c.serve_doors.new.workers c.serve_doors.result.status c.serve_doors.result.site c.in-Ok-Some-Serve.connections
    c.serve_doors.ensures.runs

pub returns-in-Ok-Some-Serve-clause-serve : goal.returns-in-Ok-Some-Serve-clause-serve
returns-in-Ok-Some-Serve-clause-serve g c = λ n is.
    let connections = c.in-Ok-Some-Serve.connections in
    let words = map string_bytes c.args.words.now in
    let read : ReadsCommand words (Ok (Some (commands.Serve connections))) =
    subst (λ (command : Command). ReadsCommand words (Ok (Some command))) c.in-Ok-Some-Serve.field-0-0-is
    (subst (λ (command : Option Command). ReadsCommand words (Ok command)) c.in-Ok-Some-Serve.field-0-is
    (subst (λ (read : Result (Option Command) AllocError). ReadsCommand words read) c.in-Ok-Some-Serve.is c.command_of.ensures)) in
    subst (λ (count : ℕ). RunsDoors g.K.Keeper g.D.Source.Ends g.D.Sink.Ends (takes g.W.Clock.reads g.V.Dice.draws) g.D.Door count c.args.keeper
    c.serve_doors.result.keeper c.args.workers.now c.serve_doors.new.workers c.serve_doors.result.status c.serve_doors.result.site)
    (serve_is_read words n (Ok (Some (commands.Serve connections))) is read) c.serve_doors.ensures.runs

pub returns-in-Ok-Some-Serve-clause-door : goal.returns-in-Ok-Some-Serve-clause-door
returns-in-Ok-Some-Serve-clause-door g c = λ is.
    subst (λ (s : Status). Says g.K.Keeper g.D.Source.Ends g.D.Sink.Ends (takes g.W.Clock.reads g.V.Dice.draws) g.D.Door c.args.keeper c.serve_doors.result.keeper
    c.args.workers.now c.serve_doors.new.workers s) is
    (runs_say g.K.Keeper g.D.Source.Ends g.D.Sink.Ends (takes g.W.Clock.reads g.V.Dice.draws) g.D.Door c.in-Ok-Some-Serve.connections c.args.keeper
    c.serve_doors.result.keeper _ _ c.serve_doors.result.status c.serve_doors.result.site c.serve_doors.ensures.runs)

pub returns-in-Ok-Some-Serve-clause-read : goal.returns-in-Ok-Some-Serve-clause-read
returns-in-Ok-Some-Serve-clause-read g c = λ is.
    absurd (subst (λ (s : Status). Says g.K.Keeper g.D.Source.Ends g.D.Sink.Ends (takes g.W.Clock.reads g.V.Dice.draws) g.D.Door c.args.keeper c.serve_doors.result.keeper
    c.args.workers.now c.serve_doors.new.workers s) is
    (runs_say g.K.Keeper g.D.Source.Ends g.D.Sink.Ends (takes g.W.Clock.reads g.V.Dice.draws) g.D.Door c.in-Ok-Some-Serve.connections c.args.keeper
    c.serve_doors.result.keeper _ _ c.serve_doors.result.status c.serve_doors.result.site c.serve_doors.ensures.runs))

pub returns-in-Ok-Some-Serve-clause-write : goal.returns-in-Ok-Some-Serve-clause-write
returns-in-Ok-Some-Serve-clause-write g c = λ is.
    absurd (subst (λ (s : Status). Says g.K.Keeper g.D.Source.Ends g.D.Sink.Ends (takes g.W.Clock.reads g.V.Dice.draws) g.D.Door c.args.keeper c.serve_doors.result.keeper
    c.args.workers.now c.serve_doors.new.workers s) is
    (runs_say g.K.Keeper g.D.Source.Ends g.D.Sink.Ends (takes g.W.Clock.reads g.V.Dice.draws) g.D.Door c.in-Ok-Some-Serve.connections c.args.keeper
    c.serve_doors.result.keeper _ _ c.serve_doors.result.status c.serve_doors.result.site c.serve_doors.ensures.runs))

pub returns-in-Ok-Some-Serve-clause-store : goal.returns-in-Ok-Some-Serve-clause-store
returns-in-Ok-Some-Serve-clause-store g c = λ _. λ is.
    subst (λ (s : Status). Says g.K.Keeper g.D.Source.Ends g.D.Sink.Ends (takes g.W.Clock.reads g.V.Dice.draws) g.D.Door c.args.keeper c.serve_doors.result.keeper
    c.args.workers.now c.serve_doors.new.workers s) is
    (runs_say g.K.Keeper g.D.Source.Ends g.D.Sink.Ends (takes g.W.Clock.reads g.V.Dice.draws) g.D.Door c.in-Ok-Some-Serve.connections c.args.keeper
    c.serve_doors.result.keeper _ _ c.serve_doors.result.status c.serve_doors.result.site c.serve_doors.ensures.runs)

pub returns-in-Ok-Some-Serve-clause-store_risen : goal.returns-in-Ok-Some-Serve-clause-store_risen
returns-in-Ok-Some-Serve-clause-store_risen g c = λ is. rose_risen _ _
    (subst (λ (s : Status). Says g.K.Keeper g.D.Source.Ends g.D.Sink.Ends (takes g.W.Clock.reads g.V.Dice.draws) g.D.Door c.args.keeper c.serve_doors.result.keeper
    c.args.workers.now c.serve_doors.new.workers s) is
    (runs_say g.K.Keeper g.D.Source.Ends g.D.Sink.Ends (takes g.W.Clock.reads g.V.Dice.draws) g.D.Door c.in-Ok-Some-Serve.connections c.args.keeper
    c.serve_doors.result.keeper _ _ c.serve_doors.result.status c.serve_doors.result.site c.serve_doors.ensures.runs))

pub returns-in-Ok-Some-Batch-clause-safe : goal.returns-in-Ok-Some-Batch-clause-safe
returns-in-Ok-Some-Batch-clause-safe g c =
    batch_keeps (takes g.C.Clock.reads g.Q.Dice.draws) _ _ c.batch.result.status c.batch.result.site c.batch.ensures.runs c.batch.ensures.leaves

pub returns-in-Ok-Some-Init-clause-safe : goal.returns-in-Ok-Some-Init-clause-safe
returns-in-Ok-Some-Init-clause-safe g c =
    let init = c.in-Ok-Some-Init.init in
    init_keeps init.name init.token init.quota _ _ c.initialize.result.status c.initialize.result.site c.initialize.ensures.inits
    c.initialize.ensures.leaves

pub returns-in-Ok-Some-Serve-clause-safe : goal.returns-in-Ok-Some-Serve-clause-safe
returns-in-Ok-Some-Serve-clause-safe g c =
    serve_keeps g.K.Keeper g.D.Source.Ends g.D.Sink.Ends (takes g.W.Clock.reads g.V.Dice.draws) g.D.Door c.in-Ok-Some-Serve.connections c.args.keeper
    c.serve_doors.result.keeper c.args.workers.now c.serve_doors.new.workers c.serve_doors.result.status c.serve_doors.result.site
    c.serve_doors.ensures.runs c.serve_doors.ensures.leaves

-- ---- `sweep`

pub returns-in-Ok-Some-Batch-clause-sweep : goal.returns-in-Ok-Some-Batch-clause-sweep
returns-in-Ok-Some-Batch-clause-sweep g c = λ sweep.
    let words = map string_bytes c.args.words.now in
    let read = reads_as words c.command_of.result _ _ commands.Batch c.command_of.ensures c.in-Ok-Some-Batch.is
    c.in-Ok-Some-Batch.field-0-is c.in-Ok-Some-Batch.field-0-0-is in
    absurd (batch_or_sweep words read sweep)

pub returns-in-Ok-Some-Batch-clause-sweep_well : goal.returns-in-Ok-Some-Batch-clause-sweep_well
returns-in-Ok-Some-Batch-clause-sweep_well g c = λ sweep.
    let words = map string_bytes c.args.words.now in
    let read = reads_as words c.command_of.result _ _ commands.Batch c.command_of.ensures c.in-Ok-Some-Batch.is
    c.in-Ok-Some-Batch.field-0-is c.in-Ok-Some-Batch.field-0-0-is in
    absurd (batch_or_sweep words read sweep)

pub returns-in-Ok-Some-Serve-clause-sweep : goal.returns-in-Ok-Some-Serve-clause-sweep
returns-in-Ok-Some-Serve-clause-sweep g c = λ sweep.
    let words = map string_bytes c.args.words.now in
    let read = reads_as words c.command_of.result _ _ (commands.Serve c.in-Ok-Some-Serve.connections) c.command_of.ensures c.in-Ok-Some-Serve.is
    c.in-Ok-Some-Serve.field-0-is c.in-Ok-Some-Serve.field-0-0-is in
    absurd (serve_or_sweep words c.in-Ok-Some-Serve.connections read sweep)

pub returns-in-Ok-Some-Serve-clause-sweep_well : goal.returns-in-Ok-Some-Serve-clause-sweep_well
returns-in-Ok-Some-Serve-clause-sweep_well g c = λ sweep.
    let words = map string_bytes c.args.words.now in
    let read = reads_as words c.command_of.result _ _ (commands.Serve c.in-Ok-Some-Serve.connections) c.command_of.ensures c.in-Ok-Some-Serve.is
    c.in-Ok-Some-Serve.field-0-is c.in-Ok-Some-Serve.field-0-0-is in
    absurd (serve_or_sweep words c.in-Ok-Some-Serve.connections read sweep)

pub returns-in-Ok-Some-Sweep-clause-no_command : goal.returns-in-Ok-Some-Sweep-clause-no_command
returns-in-Ok-Some-Sweep-clause-no_command g c = λ none.
    let words = map string_bytes c.args.words.now in
    let read = reads_as words c.command_of.result _ _ commands.Sweep c.command_of.ensures c.in-Ok-Some-Sweep.is
    c.in-Ok-Some-Sweep.field-0-is c.in-Ok-Some-Sweep.field-0-0-is in
    absurd (none (inr (inr (inr (inl read)))))

pub returns-in-Ok-Some-Sweep-clause-batch : goal.returns-in-Ok-Some-Sweep-clause-batch
returns-in-Ok-Some-Sweep-clause-batch g c = λ batch.
    let words = map string_bytes c.args.words.now in
    let read = reads_as words c.command_of.result _ _ commands.Sweep c.command_of.ensures c.in-Ok-Some-Sweep.is
    c.in-Ok-Some-Sweep.field-0-is c.in-Ok-Some-Sweep.field-0-0-is in
    absurd (batch_or_sweep words batch read)

pub returns-in-Ok-Some-Sweep-clause-init : goal.returns-in-Ok-Some-Sweep-clause-init
returns-in-Ok-Some-Sweep-clause-init g c = λ name token quota init.
    let words = map string_bytes c.args.words.now in
    let read = reads_as words c.command_of.result _ _ commands.Sweep c.command_of.ensures c.in-Ok-Some-Sweep.is
    c.in-Ok-Some-Sweep.field-0-is c.in-Ok-Some-Sweep.field-0-0-is in
    absurd (init_is_read words name token quota (Ok (Some commands.Sweep)) init read)

pub returns-in-Ok-Some-Sweep-clause-serve : goal.returns-in-Ok-Some-Sweep-clause-serve
returns-in-Ok-Some-Sweep-clause-serve g c = λ n serve.
    let words = map string_bytes c.args.words.now in
    let read = reads_as words c.command_of.result _ _ commands.Sweep c.command_of.ensures c.in-Ok-Some-Sweep.is
    c.in-Ok-Some-Sweep.field-0-is c.in-Ok-Some-Sweep.field-0-0-is in
    absurd (serve_or_sweep words n serve read)

pub returns-in-Ok-Some-Sweep-clause-apart : goal.returns-in-Ok-Some-Sweep-clause-apart
returns-in-Ok-Some-Sweep-clause-apart g c = λ serve.
    let words = map string_bytes c.args.words.now in
    let read = reads_as words c.command_of.result _ _ commands.Sweep c.command_of.ensures c.in-Ok-Some-Sweep.is
    c.in-Ok-Some-Sweep.field-0-is c.in-Ok-Some-Sweep.field-0-0-is in
    absurd (serve_or_sweep words serve.0 serve.1 read)

pub returns-in-Ok-Some-Sweep-clause-nothing : goal.returns-in-Ok-Some-Sweep-clause-nothing
returns-in-Ok-Some-Sweep-clause-nothing g c = λ none.
    let words = map string_bytes c.args.words.now in
    let read = reads_as words c.command_of.result _ _ commands.Sweep c.command_of.ensures c.in-Ok-Some-Sweep.is
    c.in-Ok-Some-Sweep.field-0-is c.in-Ok-Some-Sweep.field-0-0-is in
    absurd (none (inr (inr (inr (inl read)))))

pub returns-in-Ok-Some-Sweep-clause-room : goal.returns-in-Ok-Some-Sweep-clause-room
returns-in-Ok-Some-Sweep-clause-room g c = λ batch.
    let words = map string_bytes c.args.words.now in
    let read = reads_as words c.command_of.result _ _ commands.Sweep c.command_of.ensures c.in-Ok-Some-Sweep.is
    c.in-Ok-Some-Sweep.field-0-is c.in-Ok-Some-Sweep.field-0-0-is in
    absurd (batch_or_sweep words batch read)

pub returns-in-Ok-Some-Sweep-clause-batch_well : goal.returns-in-Ok-Some-Sweep-clause-batch_well
returns-in-Ok-Some-Sweep-clause-batch_well g c = λ batch.
    let words = map string_bytes c.args.words.now in
    let read = reads_as words c.command_of.result _ _ commands.Sweep c.command_of.ensures c.in-Ok-Some-Sweep.is
    c.in-Ok-Some-Sweep.field-0-is c.in-Ok-Some-Sweep.field-0-0-is in
    absurd (batch_or_sweep words batch read)

pub returns-in-Ok-Some-Sweep-clause-init_well : goal.returns-in-Ok-Some-Sweep-clause-init_well
returns-in-Ok-Some-Sweep-clause-init_well g c = λ name token quota init.
    let words = map string_bytes c.args.words.now in
    let read = reads_as words c.command_of.result _ _ commands.Sweep c.command_of.ensures c.in-Ok-Some-Sweep.is
    c.in-Ok-Some-Sweep.field-0-is c.in-Ok-Some-Sweep.field-0-0-is in
    absurd (init_is_read words name token quota (Ok (Some commands.Sweep)) init read)

pub returns-in-Ok-Some-Sweep-clause-serve_well : goal.returns-in-Ok-Some-Sweep-clause-serve_well
returns-in-Ok-Some-Sweep-clause-serve_well g c = λ serve.
    let words = map string_bytes c.args.words.now in
    let read = reads_as words c.command_of.result _ _ commands.Sweep c.command_of.ensures c.in-Ok-Some-Sweep.is
    c.in-Ok-Some-Sweep.field-0-is c.in-Ok-Some-Sweep.field-0-0-is in
    absurd (serve_or_sweep words serve.0 serve.1 read)

pub returns-in-Ok-Some-Sweep-clause-one_file : goal.returns-in-Ok-Some-Sweep-clause-one_file
returns-in-Ok-Some-Sweep-clause-one_file g c = λ batch.
    let words = map string_bytes c.args.words.now in
    let read = reads_as words c.command_of.result _ _ commands.Sweep c.command_of.ensures c.in-Ok-Some-Sweep.is
    c.in-Ok-Some-Sweep.field-0-is c.in-Ok-Some-Sweep.field-0-0-is in
    absurd (batch_or_sweep words batch read)

pub returns-in-Ok-Some-Sweep-clause-sweep : goal.returns-in-Ok-Some-Sweep-clause-sweep
returns-in-Ok-Some-Sweep-clause-sweep g c = λ sweep.
    sweeps_beside g.C.Clock.reads (g.S.Ends.left c.args.input.now) (g.S.Ends.read_faults c.args.input.now) c.args.dice.now
    (outlet_with g.O.Ends g.K.Keeper c.args.output.now c.args.keeper c.args.clock.now)
    (outlet_with g.O.Ends g.K.Keeper c.sweep.new.output c.sweep.result.keeper c.sweep.new.clock)
    c.sweep.result.status c.sweep.result.site c.sweep.ensures.sweeps

pub returns-in-Ok-Some-Sweep-clause-sweep_well : goal.returns-in-Ok-Some-Sweep-clause-sweep_well
returns-in-Ok-Some-Sweep-clause-sweep_well g c = λ sweep.
    sweep_well (reads_clock g.C.Clock.reads) _ _ c.sweep.result.status c.sweep.result.site (returns-in-Ok-Some-Sweep-clause-sweep g c sweep)

pub returns-in-Ok-Some-Sweep-clause-safe : goal.returns-in-Ok-Some-Sweep-clause-safe
returns-in-Ok-Some-Sweep-clause-safe g c =
    sweep_keeps g.C.Clock.reads (outlet_with g.O.Ends g.K.Keeper c.args.output.now c.args.keeper c.args.clock.now)
    (outlet_with g.O.Ends g.K.Keeper c.sweep.new.output c.sweep.result.keeper c.sweep.new.clock)
    c.sweep.result.status c.sweep.result.site c.sweep.ensures.sweeps c.sweep.ensures.leaves

pub returns-in-Ok-Some-Sweep-clause-words : goal.returns-in-Ok-Some-Sweep-clause-words
returns-in-Ok-Some-Sweep-clause-words g c = λ is command.
    subst (λ (s : Status). SweepSays (outlet_with g.O.Ends g.K.Keeper c.args.output.now c.args.keeper c.args.clock.now)
    (outlet_with g.O.Ends g.K.Keeper c.sweep.new.output c.sweep.result.keeper c.sweep.new.clock) s) is
    (sweep_says (outlet_with g.O.Ends g.K.Keeper c.args.output.now c.args.keeper c.args.clock.now)
    (outlet_with g.O.Ends g.K.Keeper c.sweep.new.output c.sweep.result.keeper c.sweep.new.clock)
    g.C.Clock.reads c.sweep.result.status c.sweep.result.site c.sweep.ensures.sweeps)

pub returns-in-Ok-Some-Sweep-clause-read : goal.returns-in-Ok-Some-Sweep-clause-read
returns-in-Ok-Some-Sweep-clause-read g c = λ is.
    absurd (subst (λ (s : Status). SweepSays (outlet_with g.O.Ends g.K.Keeper c.args.output.now c.args.keeper c.args.clock.now)
    (outlet_with g.O.Ends g.K.Keeper c.sweep.new.output c.sweep.result.keeper c.sweep.new.clock) s) is
    (sweep_says (outlet_with g.O.Ends g.K.Keeper c.args.output.now c.args.keeper c.args.clock.now)
    (outlet_with g.O.Ends g.K.Keeper c.sweep.new.output c.sweep.result.keeper c.sweep.new.clock)
    g.C.Clock.reads c.sweep.result.status c.sweep.result.site c.sweep.ensures.sweeps))

pub returns-in-Ok-Some-Sweep-clause-write : goal.returns-in-Ok-Some-Sweep-clause-write
returns-in-Ok-Some-Sweep-clause-write g c = λ is.
    subst (λ (s : Status). SweepSays (outlet_with g.O.Ends g.K.Keeper c.args.output.now c.args.keeper c.args.clock.now)
    (outlet_with g.O.Ends g.K.Keeper c.sweep.new.output c.sweep.result.keeper c.sweep.new.clock) s) is
    (sweep_says (outlet_with g.O.Ends g.K.Keeper c.args.output.now c.args.keeper c.args.clock.now)
    (outlet_with g.O.Ends g.K.Keeper c.sweep.new.output c.sweep.result.keeper c.sweep.new.clock)
    g.C.Clock.reads c.sweep.result.status c.sweep.result.site c.sweep.ensures.sweeps)

pub returns-in-Ok-Some-Sweep-clause-store : goal.returns-in-Ok-Some-Sweep-clause-store
returns-in-Ok-Some-Sweep-clause-store g c = λ _. λ is.
    subst (λ (s : Status). SweepSays (outlet_with g.O.Ends g.K.Keeper c.args.output.now c.args.keeper c.args.clock.now)
    (outlet_with g.O.Ends g.K.Keeper c.sweep.new.output c.sweep.result.keeper c.sweep.new.clock) s) is
    (sweep_says (outlet_with g.O.Ends g.K.Keeper c.args.output.now c.args.keeper c.args.clock.now)
    (outlet_with g.O.Ends g.K.Keeper c.sweep.new.output c.sweep.result.keeper c.sweep.new.clock)
    g.C.Clock.reads c.sweep.result.status c.sweep.result.site c.sweep.ensures.sweeps)

pub returns-in-Ok-Some-Sweep-clause-store_risen : goal.returns-in-Ok-Some-Sweep-clause-store_risen
returns-in-Ok-Some-Sweep-clause-store_risen g c = λ is. rose_risen _ _
    (subst (λ (s : Status). SweepSays (outlet_with g.O.Ends g.K.Keeper c.args.output.now c.args.keeper c.args.clock.now)
    (outlet_with g.O.Ends g.K.Keeper c.sweep.new.output c.sweep.result.keeper c.sweep.new.clock) s) is
    (sweep_says (outlet_with g.O.Ends g.K.Keeper c.args.output.now c.args.keeper c.args.clock.now)
    (outlet_with g.O.Ends g.K.Keeper c.sweep.new.output c.sweep.result.keeper c.sweep.new.clock)
    g.C.Clock.reads c.sweep.result.status c.sweep.result.site c.sweep.ensures.sweeps))

pub returns-in-Ok-Some-Sweep-clause-door : goal.returns-in-Ok-Some-Sweep-clause-door
returns-in-Ok-Some-Sweep-clause-door g c = λ is.
    absurd (subst (λ (s : Status). SweepSays (outlet_with g.O.Ends g.K.Keeper c.args.output.now c.args.keeper c.args.clock.now)
    (outlet_with g.O.Ends g.K.Keeper c.sweep.new.output c.sweep.result.keeper c.sweep.new.clock) s) is
    (sweep_says (outlet_with g.O.Ends g.K.Keeper c.args.output.now c.args.keeper c.args.clock.now)
    (outlet_with g.O.Ends g.K.Keeper c.sweep.new.output c.sweep.result.keeper c.sweep.new.clock)
    g.C.Clock.reads c.sweep.result.status c.sweep.result.site c.sweep.ensures.sweeps))

-- ---- `generate`

-- nor are they those of a `generate` and of another command
batch_or_list : (words : List (List ℕ)) (seed count : ℕ) → IsBatch words → IsGenerate words seed count → ⊥
batch_or_list words seed count batch list = cc (generate_is_read words seed count (Ok (Some commands.Batch)) list batch)

sweep_or_list : (words : List (List ℕ)) (seed count : ℕ) → IsSweep words → IsGenerate words seed count → ⊥
sweep_or_list words seed count sweep list = cc (generate_is_read words seed count (Ok (Some commands.Sweep)) list sweep)

serve_or_list : (words : List (List ℕ)) (n seed count : ℕ) → IsServe words n → IsGenerate words seed count → ⊥
serve_or_list words n seed count serve list = cc (generate_is_read words seed count (Ok (Some (commands.Serve n))) list serve)

init_or_list : (words : List (List ℕ)) (init : Init) (seed count : ℕ) → IsInitOf words init → IsGenerate words seed count → ⊥
init_or_list words init seed count other list = cc (generate_is_read words seed count (Ok (Some (commands.Init init))) list other)

pub returns-in-Ok-Some-Generate-clause-no_command : goal.returns-in-Ok-Some-Generate-clause-no_command
returns-in-Ok-Some-Generate-clause-no_command g c = λ none.
    let words = map string_bytes c.args.words.now in
    let read = reads_as words c.command_of.result _ _ (commands.Generate c.in-Ok-Some-Generate.seed c.in-Ok-Some-Generate.count) c.command_of.ensures
    c.in-Ok-Some-Generate.is c.in-Ok-Some-Generate.field-0-is c.in-Ok-Some-Generate.field-0-0-is in
    absurd (none (inr (inr (inr (inr (c.in-Ok-Some-Generate.seed, c.in-Ok-Some-Generate.count, read))))))

pub returns-in-Ok-Some-Generate-clause-batch : goal.returns-in-Ok-Some-Generate-clause-batch
returns-in-Ok-Some-Generate-clause-batch g c = λ batch.
    let words = map string_bytes c.args.words.now in
    let read = reads_as words c.command_of.result _ _ (commands.Generate c.in-Ok-Some-Generate.seed c.in-Ok-Some-Generate.count) c.command_of.ensures
    c.in-Ok-Some-Generate.is c.in-Ok-Some-Generate.field-0-is c.in-Ok-Some-Generate.field-0-0-is in
    absurd (batch_or_list words c.in-Ok-Some-Generate.seed c.in-Ok-Some-Generate.count batch read)

pub returns-in-Ok-Some-Generate-clause-init : goal.returns-in-Ok-Some-Generate-clause-init
returns-in-Ok-Some-Generate-clause-init g c = λ name token quota init.
    let words = map string_bytes c.args.words.now in
    let read = reads_as words c.command_of.result _ _ (commands.Generate c.in-Ok-Some-Generate.seed c.in-Ok-Some-Generate.count) c.command_of.ensures
    c.in-Ok-Some-Generate.is c.in-Ok-Some-Generate.field-0-is c.in-Ok-Some-Generate.field-0-0-is in
    absurd (init_is_read words name token quota (Ok (Some (commands.Generate c.in-Ok-Some-Generate.seed c.in-Ok-Some-Generate.count))) init read)

pub returns-in-Ok-Some-Generate-clause-serve : goal.returns-in-Ok-Some-Generate-clause-serve
returns-in-Ok-Some-Generate-clause-serve g c = λ n serve.
    let words = map string_bytes c.args.words.now in
    let read = reads_as words c.command_of.result _ _ (commands.Generate c.in-Ok-Some-Generate.seed c.in-Ok-Some-Generate.count) c.command_of.ensures
    c.in-Ok-Some-Generate.is c.in-Ok-Some-Generate.field-0-is c.in-Ok-Some-Generate.field-0-0-is in
    absurd (serve_or_list words n c.in-Ok-Some-Generate.seed c.in-Ok-Some-Generate.count serve read)

pub returns-in-Ok-Some-Generate-clause-sweep : goal.returns-in-Ok-Some-Generate-clause-sweep
returns-in-Ok-Some-Generate-clause-sweep g c = λ sweep.
    let words = map string_bytes c.args.words.now in
    let read = reads_as words c.command_of.result _ _ (commands.Generate c.in-Ok-Some-Generate.seed c.in-Ok-Some-Generate.count) c.command_of.ensures
    c.in-Ok-Some-Generate.is c.in-Ok-Some-Generate.field-0-is c.in-Ok-Some-Generate.field-0-0-is in
    absurd (sweep_or_list words c.in-Ok-Some-Generate.seed c.in-Ok-Some-Generate.count sweep read)

pub returns-in-Ok-Some-Generate-clause-apart : goal.returns-in-Ok-Some-Generate-clause-apart
returns-in-Ok-Some-Generate-clause-apart g c = λ serve.
    let words = map string_bytes c.args.words.now in
    let read = reads_as words c.command_of.result _ _ (commands.Generate c.in-Ok-Some-Generate.seed c.in-Ok-Some-Generate.count) c.command_of.ensures
    c.in-Ok-Some-Generate.is c.in-Ok-Some-Generate.field-0-is c.in-Ok-Some-Generate.field-0-0-is in
    absurd (serve_or_list words serve.0 c.in-Ok-Some-Generate.seed c.in-Ok-Some-Generate.count serve.1 read)

pub returns-in-Ok-Some-Generate-clause-nothing : goal.returns-in-Ok-Some-Generate-clause-nothing
returns-in-Ok-Some-Generate-clause-nothing g c = λ none.
    let words = map string_bytes c.args.words.now in
    let read = reads_as words c.command_of.result _ _ (commands.Generate c.in-Ok-Some-Generate.seed c.in-Ok-Some-Generate.count) c.command_of.ensures
    c.in-Ok-Some-Generate.is c.in-Ok-Some-Generate.field-0-is c.in-Ok-Some-Generate.field-0-0-is in
    absurd (none (inr (inr (inr (inr (c.in-Ok-Some-Generate.seed, c.in-Ok-Some-Generate.count, read))))))

pub returns-in-Ok-Some-Generate-clause-room : goal.returns-in-Ok-Some-Generate-clause-room
returns-in-Ok-Some-Generate-clause-room g c = λ batch.
    let words = map string_bytes c.args.words.now in
    let read = reads_as words c.command_of.result _ _ (commands.Generate c.in-Ok-Some-Generate.seed c.in-Ok-Some-Generate.count) c.command_of.ensures
    c.in-Ok-Some-Generate.is c.in-Ok-Some-Generate.field-0-is c.in-Ok-Some-Generate.field-0-0-is in
    absurd (batch_or_list words c.in-Ok-Some-Generate.seed c.in-Ok-Some-Generate.count batch read)

pub returns-in-Ok-Some-Generate-clause-batch_well : goal.returns-in-Ok-Some-Generate-clause-batch_well
returns-in-Ok-Some-Generate-clause-batch_well g c = λ batch.
    let words = map string_bytes c.args.words.now in
    let read = reads_as words c.command_of.result _ _ (commands.Generate c.in-Ok-Some-Generate.seed c.in-Ok-Some-Generate.count) c.command_of.ensures
    c.in-Ok-Some-Generate.is c.in-Ok-Some-Generate.field-0-is c.in-Ok-Some-Generate.field-0-0-is in
    absurd (batch_or_list words c.in-Ok-Some-Generate.seed c.in-Ok-Some-Generate.count batch read)

pub returns-in-Ok-Some-Generate-clause-init_well : goal.returns-in-Ok-Some-Generate-clause-init_well
returns-in-Ok-Some-Generate-clause-init_well g c = λ name token quota init.
    let words = map string_bytes c.args.words.now in
    let read = reads_as words c.command_of.result _ _ (commands.Generate c.in-Ok-Some-Generate.seed c.in-Ok-Some-Generate.count) c.command_of.ensures
    c.in-Ok-Some-Generate.is c.in-Ok-Some-Generate.field-0-is c.in-Ok-Some-Generate.field-0-0-is in
    absurd (init_is_read words name token quota (Ok (Some (commands.Generate c.in-Ok-Some-Generate.seed c.in-Ok-Some-Generate.count))) init read)

pub returns-in-Ok-Some-Generate-clause-serve_well : goal.returns-in-Ok-Some-Generate-clause-serve_well
returns-in-Ok-Some-Generate-clause-serve_well g c = λ serve.
    let words = map string_bytes c.args.words.now in
    let read = reads_as words c.command_of.result _ _ (commands.Generate c.in-Ok-Some-Generate.seed c.in-Ok-Some-Generate.count) c.command_of.ensures
    c.in-Ok-Some-Generate.is c.in-Ok-Some-Generate.field-0-is c.in-Ok-Some-Generate.field-0-0-is in
    absurd (serve_or_list words serve.0 c.in-Ok-Some-Generate.seed c.in-Ok-Some-Generate.count serve.1 read)

pub returns-in-Ok-Some-Generate-clause-sweep_well : goal.returns-in-Ok-Some-Generate-clause-sweep_well
returns-in-Ok-Some-Generate-clause-sweep_well g c = λ sweep.
    let words = map string_bytes c.args.words.now in
    let read = reads_as words c.command_of.result _ _ (commands.Generate c.in-Ok-Some-Generate.seed c.in-Ok-Some-Generate.count) c.command_of.ensures
    c.in-Ok-Some-Generate.is c.in-Ok-Some-Generate.field-0-is c.in-Ok-Some-Generate.field-0-0-is in
    absurd (sweep_or_list words c.in-Ok-Some-Generate.seed c.in-Ok-Some-Generate.count sweep read)

pub returns-in-Ok-Some-Generate-clause-one_file : goal.returns-in-Ok-Some-Generate-clause-one_file
returns-in-Ok-Some-Generate-clause-one_file g c = λ batch.
    let words = map string_bytes c.args.words.now in
    let read = reads_as words c.command_of.result _ _ (commands.Generate c.in-Ok-Some-Generate.seed c.in-Ok-Some-Generate.count) c.command_of.ensures
    c.in-Ok-Some-Generate.is c.in-Ok-Some-Generate.field-0-is c.in-Ok-Some-Generate.field-0-0-is in
    absurd (batch_or_list words c.in-Ok-Some-Generate.seed c.in-Ok-Some-Generate.count batch read)

pub returns-in-Ok-Some-Generate-clause-store : goal.returns-in-Ok-Some-Generate-clause-store
returns-in-Ok-Some-Generate-clause-store g c = λ none.
    let words = map string_bytes c.args.words.now in
    let read = reads_as words c.command_of.result _ _ (commands.Generate c.in-Ok-Some-Generate.seed c.in-Ok-Some-Generate.count) c.command_of.ensures
    c.in-Ok-Some-Generate.is c.in-Ok-Some-Generate.field-0-is c.in-Ok-Some-Generate.field-0-0-is in
    absurd (none (c.in-Ok-Some-Generate.seed, c.in-Ok-Some-Generate.count, read))

pub returns-in-Ok-Some-Generate-clause-generate : goal.returns-in-Ok-Some-Generate-clause-generate
returns-in-Ok-Some-Generate-clause-generate g c = λ seed count list.
    let words = map string_bytes c.args.words.now in
    let read = reads_as words c.command_of.result _ _ (commands.Generate c.in-Ok-Some-Generate.seed c.in-Ok-Some-Generate.count) c.command_of.ensures
    c.in-Ok-Some-Generate.is c.in-Ok-Some-Generate.field-0-is c.in-Ok-Some-Generate.field-0-0-is in
    let same = generate_is_read words seed count (Ok (Some (commands.Generate c.in-Ok-Some-Generate.seed c.in-Ok-Some-Generate.count))) list read in
    let a = outlet g.O.Ends g.K.Keeper c.args.output.now c.args.keeper in
    let b = outlet g.O.Ends g.K.Keeper c.generate.new.output c.generate.result.keeper in
    generates_beside (g.S.Ends.left c.args.input.now) (g.S.Ends.read_faults c.args.input.now) (lent c.args.clock.now c.args.dice.now) seed count a b
    c.generate.result.status c.generate.result.site
    (subst (λ (n : ℕ). Generates seed n a b c.generate.result.status c.generate.result.site) (cc same)
    (subst (λ (n : ℕ). Generates n c.in-Ok-Some-Generate.count a b c.generate.result.status c.generate.result.site) (cc same) c.generate.ensures.generates))

pub returns-in-Ok-Some-Generate-clause-safe : goal.returns-in-Ok-Some-Generate-clause-safe
returns-in-Ok-Some-Generate-clause-safe g c =
    generate_keeps c.in-Ok-Some-Generate.seed c.in-Ok-Some-Generate.count (outlet g.O.Ends g.K.Keeper c.args.output.now c.args.keeper)
    (outlet g.O.Ends g.K.Keeper c.generate.new.output c.generate.result.keeper) c.generate.result.status c.generate.result.site
    c.generate.ensures.generates c.generate.ensures.leaves

pub returns-in-Ok-Some-Generate-clause-words : goal.returns-in-Ok-Some-Generate-clause-words
returns-in-Ok-Some-Generate-clause-words g c = λ is command.
    (subst (λ (s : Status). GenerateSays (outlet g.O.Ends g.K.Keeper c.args.output.now c.args.keeper)
    (outlet g.O.Ends g.K.Keeper c.generate.new.output c.generate.result.keeper) s) is
    (generate_says (outlet g.O.Ends g.K.Keeper c.args.output.now c.args.keeper)
    (outlet g.O.Ends g.K.Keeper c.generate.new.output c.generate.result.keeper)
    c.in-Ok-Some-Generate.seed c.in-Ok-Some-Generate.count c.generate.result.status c.generate.result.site c.generate.ensures.generates))

pub returns-in-Ok-Some-Generate-clause-read : goal.returns-in-Ok-Some-Generate-clause-read
returns-in-Ok-Some-Generate-clause-read g c = λ is.
    absurd (subst (λ (s : Status). GenerateSays (outlet g.O.Ends g.K.Keeper c.args.output.now c.args.keeper)
    (outlet g.O.Ends g.K.Keeper c.generate.new.output c.generate.result.keeper) s) is
    (generate_says (outlet g.O.Ends g.K.Keeper c.args.output.now c.args.keeper)
    (outlet g.O.Ends g.K.Keeper c.generate.new.output c.generate.result.keeper)
    c.in-Ok-Some-Generate.seed c.in-Ok-Some-Generate.count c.generate.result.status c.generate.result.site c.generate.ensures.generates))

pub returns-in-Ok-Some-Generate-clause-write : goal.returns-in-Ok-Some-Generate-clause-write
returns-in-Ok-Some-Generate-clause-write g c = λ is.
    (subst (λ (s : Status). GenerateSays (outlet g.O.Ends g.K.Keeper c.args.output.now c.args.keeper)
    (outlet g.O.Ends g.K.Keeper c.generate.new.output c.generate.result.keeper) s) is
    (generate_says (outlet g.O.Ends g.K.Keeper c.args.output.now c.args.keeper)
    (outlet g.O.Ends g.K.Keeper c.generate.new.output c.generate.result.keeper)
    c.in-Ok-Some-Generate.seed c.in-Ok-Some-Generate.count c.generate.result.status c.generate.result.site c.generate.ensures.generates))

pub returns-in-Ok-Some-Generate-clause-store_risen : goal.returns-in-Ok-Some-Generate-clause-store_risen
returns-in-Ok-Some-Generate-clause-store_risen g c = λ is.
    (subst (λ (s : Status). GenerateSays (outlet g.O.Ends g.K.Keeper c.args.output.now c.args.keeper)
    (outlet g.O.Ends g.K.Keeper c.generate.new.output c.generate.result.keeper) s) is
    (generate_says (outlet g.O.Ends g.K.Keeper c.args.output.now c.args.keeper)
    (outlet g.O.Ends g.K.Keeper c.generate.new.output c.generate.result.keeper)
    c.in-Ok-Some-Generate.seed c.in-Ok-Some-Generate.count c.generate.result.status c.generate.result.site c.generate.ensures.generates))

pub returns-in-Ok-Some-Generate-clause-door : goal.returns-in-Ok-Some-Generate-clause-door
returns-in-Ok-Some-Generate-clause-door g c = λ is.
    absurd (subst (λ (s : Status). GenerateSays (outlet g.O.Ends g.K.Keeper c.args.output.now c.args.keeper)
    (outlet g.O.Ends g.K.Keeper c.generate.new.output c.generate.result.keeper) s) is
    (generate_says (outlet g.O.Ends g.K.Keeper c.args.output.now c.args.keeper)
    (outlet g.O.Ends g.K.Keeper c.generate.new.output c.generate.result.keeper)
    c.in-Ok-Some-Generate.seed c.in-Ok-Some-Generate.count c.generate.result.status c.generate.result.site c.generate.ensures.generates))

pub returns-in-Ok-Some-Batch-clause-generate : goal.returns-in-Ok-Some-Batch-clause-generate
returns-in-Ok-Some-Batch-clause-generate g c = λ seed count list.
    let words = map string_bytes c.args.words.now in
    let read = reads_as words c.command_of.result _ _ commands.Batch c.command_of.ensures c.in-Ok-Some-Batch.is
    c.in-Ok-Some-Batch.field-0-is c.in-Ok-Some-Batch.field-0-0-is in
    absurd (batch_or_list words seed count read list)

pub returns-in-Ok-Some-Sweep-clause-generate : goal.returns-in-Ok-Some-Sweep-clause-generate
returns-in-Ok-Some-Sweep-clause-generate g c = λ seed count list.
    let words = map string_bytes c.args.words.now in
    let read = reads_as words c.command_of.result _ _ commands.Sweep c.command_of.ensures c.in-Ok-Some-Sweep.is
    c.in-Ok-Some-Sweep.field-0-is c.in-Ok-Some-Sweep.field-0-0-is in
    absurd (sweep_or_list words seed count read list)

pub returns-in-Ok-Some-Serve-clause-generate : goal.returns-in-Ok-Some-Serve-clause-generate
returns-in-Ok-Some-Serve-clause-generate g c = λ seed count list.
    let words = map string_bytes c.args.words.now in
    let read = reads_as words c.command_of.result _ _ (commands.Serve c.in-Ok-Some-Serve.connections) c.command_of.ensures c.in-Ok-Some-Serve.is
    c.in-Ok-Some-Serve.field-0-is c.in-Ok-Some-Serve.field-0-0-is in
    absurd (serve_or_list words c.in-Ok-Some-Serve.connections seed count read list)

pub returns-in-Ok-Some-Generate-clause-generate_well : goal.returns-in-Ok-Some-Generate-clause-generate_well
returns-in-Ok-Some-Generate-clause-generate_well g c = λ list.
    generate_well list.0 list.1 _ _ c.generate.result.status c.generate.result.site
    (returns-in-Ok-Some-Generate-clause-generate g c list.0 list.1 list.2)

pub returns-in-Ok-Some-Batch-clause-generate_well : goal.returns-in-Ok-Some-Batch-clause-generate_well
returns-in-Ok-Some-Batch-clause-generate_well g c = λ list.
    let words = map string_bytes c.args.words.now in
    let read = reads_as words c.command_of.result _ _ commands.Batch c.command_of.ensures c.in-Ok-Some-Batch.is
    c.in-Ok-Some-Batch.field-0-is c.in-Ok-Some-Batch.field-0-0-is in
    absurd (batch_or_list words list.0 list.1 read list.2)

pub returns-in-Ok-Some-Sweep-clause-generate_well : goal.returns-in-Ok-Some-Sweep-clause-generate_well
returns-in-Ok-Some-Sweep-clause-generate_well g c = λ list.
    let words = map string_bytes c.args.words.now in
    let read = reads_as words c.command_of.result _ _ commands.Sweep c.command_of.ensures c.in-Ok-Some-Sweep.is
    c.in-Ok-Some-Sweep.field-0-is c.in-Ok-Some-Sweep.field-0-0-is in
    absurd (sweep_or_list words list.0 list.1 read list.2)

pub returns-in-Ok-Some-Serve-clause-generate_well : goal.returns-in-Ok-Some-Serve-clause-generate_well
returns-in-Ok-Some-Serve-clause-generate_well g c = λ list.
    let words = map string_bytes c.args.words.now in
    let read = reads_as words c.command_of.result _ _ (commands.Serve c.in-Ok-Some-Serve.connections) c.command_of.ensures c.in-Ok-Some-Serve.is
    c.in-Ok-Some-Serve.field-0-is c.in-Ok-Some-Serve.field-0-0-is in
    absurd (serve_or_list words c.in-Ok-Some-Serve.connections list.0 list.1 read list.2)

pub returns-in-Ok-Some-Init-clause-generate : goal.returns-in-Ok-Some-Init-clause-generate
returns-in-Ok-Some-Init-clause-generate g c = λ seed count list.
    let words = map string_bytes c.args.words.now in
    let init = c.in-Ok-Some-Init.init in
    let read = reads_as words c.command_of.result _ _ (commands.Init init) c.command_of.ensures c.in-Ok-Some-Init.is
    c.in-Ok-Some-Init.field-0-is c.in-Ok-Some-Init.field-0-0-is in
    absurd (init_or_list words init seed count read list)

pub returns-in-Ok-Some-Init-clause-generate_well : goal.returns-in-Ok-Some-Init-clause-generate_well
returns-in-Ok-Some-Init-clause-generate_well g c = λ list.
    let words = map string_bytes c.args.words.now in
    let init = c.in-Ok-Some-Init.init in
    let read = reads_as words c.command_of.result _ _ (commands.Init init) c.command_of.ensures c.in-Ok-Some-Init.is
    c.in-Ok-Some-Init.field-0-is c.in-Ok-Some-Init.field-0-0-is in
    absurd (init_or_list words init list.0 list.1 read list.2)

pub returns-in-Ok-Some-Init-clause-store_risen : goal.returns-in-Ok-Some-Init-clause-store_risen
returns-in-Ok-Some-Init-clause-store_risen g c =
    let init = c.in-Ok-Some-Init.init in
    init_risen (first_rows init.name init.token init.quota) (outlet g.O.Ends g.K.Keeper c.args.output.now c.args.keeper)
    (outlet g.O.Ends g.K.Keeper c.initialize.new.output c.initialize.result.keeper) c.initialize.result.status c.initialize.result.site
    c.initialize.ensures.inits

pub returns-in-Ok-None-clause-generate : goal.returns-in-Ok-None-clause-generate
returns-in-Ok-None-clause-generate g c = λ seed count list.
    let words = map string_bytes c.args.words.now in
    let none : ReadsCommand words (Ok None) =
    subst (λ (r : Result (Option Command) AllocError). ReadsCommand words r) (c.in-Ok-None.is ∙ ap (λ (o : Option Command). Ok o) c.in-Ok-None.field-0-is)
    c.command_of.ensures in
    absurd (none (inr (inr (inr (inr (seed, count, list))))))
