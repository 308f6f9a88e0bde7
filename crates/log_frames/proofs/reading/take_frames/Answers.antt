use Rattle.std.proofs.Common.{◌≡◌, ◌++◌, ◌∷◌, [], refl, sym, arith, vec_len, ◌∙◌}
use Rattle.std.proofs.KnownBytes.{Consumes-nil}
use Rattle.log_frames.specs.Endings.{largest_synced}
use Rattle.log_frames.proofs.NextFrames.{room_later}
use Rattle.log_frames.proofs.Scanning.{room_first}
use Rattle.log_frames.proofs.Taking.{one_end, one_fits, one_given, one_synced, one_taken}
use Rattle.log_frames.proofs.reading.take_frames.Goals as goal

pub loop-turn-init : goal.loop-turn-init
loop-turn-init g c = ([], tt, refl, Consumes-nil _, refl, refl, room_first 0 (g.R.Read.remaining c.args.input.now) (vec_len c.args.buffer.now))

pub loop-turn-preserved : goal.loop-turn-preserved
loop-turn-preserved g c =
    let so_far = c.loop-turn.invariant in
    let id = c.args.id in
    let start = c.args.start in
    let now = rw so_far.4 at c.in-Ok.ensures.taken in
    let f = now.frame in
    let synced : c.max-synced.result ≡ largest_synced (so_far.0 ++ f ∷ []) = omega (arith, c.max-synced.ensures, so_far.5, now.synced, one_synced so_far.0 f) in (
      so_far.0 ++ f ∷ [],
      one_fits id start so_far.0 f so_far.1 now.fits,
      one_taken g.S.FrameSink.takes _ _ _ so_far.0 f so_far.2 now.taken,
      one_given id start _ _ _ so_far.0 f so_far.3 now.given,
      now.next ∙ sym (one_end id start so_far.0 f),
      synced,
      room_later (g.R.Read.remaining c.args.input.now) (g.R.Read.remaining c.loop-turn.input) _ (vec_len c.args.buffer.now) (vec_len c.loop-turn.buffer) (vec_len c.take_next_frame.new.buffer) so_far.3 so_far.6 c.take_next_frame.ensures.memory,
    )

pub returns-in-Err-clause-read : goal.returns-in-Err-clause-read
returns-in-Err-clause-read g c =
    let so_far = c.loop-turn.invariant in
    let ended = rw so_far.4 at c.in-Err.ensures.ended in
    record {
      frames = so_far.0;
      fit = so_far.1;
      mid = c.loop-turn.sink;
      taken = so_far.2;
      rest = g.R.Read.remaining c.loop-turn.input;
      given = so_far.3;
      cursor = so_far.4;
      synced = so_far.5;
      ends = ended.0;
      sink = ended.1;
    }

pub returns-clause-read : goal.returns-clause-read
returns-clause-read g c =
    let so_far = c.loop-turn.invariant in
    record {
      frames = so_far.0;
      fit = so_far.1;
      mid = c.loop-turn.sink;
      taken = so_far.2;
      rest = g.R.Read.remaining c.loop-turn.input;
      given = so_far.3;
      cursor = so_far.4;
      synced = so_far.5;
      ends = tt;
      sink = refl;
    }

pub returns-in-Err-clause-memory : goal.returns-in-Err-clause-memory
returns-in-Err-clause-memory g c =
    let so_far = c.loop-turn.invariant in
    room_later (g.R.Read.remaining c.args.input.now) (g.R.Read.remaining c.loop-turn.input) _ (vec_len c.args.buffer.now) (vec_len c.loop-turn.buffer) (vec_len c.take_next_frame.new.buffer) so_far.3 so_far.6 c.take_next_frame.ensures.memory

pub returns-clause-memory : goal.returns-clause-memory
returns-clause-memory g c = c.loop-turn.invariant.6
