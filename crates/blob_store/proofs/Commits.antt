-- A desk only learns by a commit, in one part of it after another.
use Rattle.std.proofs.Common.{◌≡◌, ◌∙◌, ◌++◌, ℕ, List, ap, refl}
use Rattle.durable_log.proofs.Prefixes.{prefix_self, prefix_trans}
use Rattle.durable_log.specs.Views.{DeviceView}
use Rattle.blob_store.specs.Commits.{AppendsDurably, WritesAll}
use Rattle.locked_book.specs.Durability.{LearnsDurable, OnlyLearns}
use Rattle.locked_book.specs.History.{DeskView}
use Rattle.locked_book.specs.Names.{StoreNames}

pub learns_nothing : (d : DeskView) → OnlyLearns d d
learns_nothing d = record { amounts = refl; own = refl; number = refl; seen = prefix_self d.trace.seen }

pub learns_on : (a b c : DeskView) → OnlyLearns a b → OnlyLearns b c → OnlyLearns a c
learns_on a b c p q = record { amounts = q.amounts ∙ p.amounts; own = q.own ∙ p.own; number = q.number ∙ p.number; seen = prefix_trans a.trace.seen b.trace.seen c.trace.seen p.seen q.seen }

-- what a desk had seen before it learnt more is durable too
pub durable_before : (names : StoreNames) (a b c : DeskView) → OnlyLearns a b → LearnsDurable names b c → LearnsDurable names a c
durable_before names a b c p q = record { covers = prefix_trans a.trace.seen b.trace.seen c.trace.durable p.seen q.covers; own = q.own; durable = q.durable }

-- the bytes that were written are those in the buffer
pub appends_durably : {E : Type 0} (a b c : DeviceView E) (bytes : List ℕ) → b.written ≡ a.written → b.buffer ≡ bytes → WritesAll b c → AppendsDurably a bytes c
appends_durably a b c bytes kept same w = (w.0 ∙ (ap (λ k. k ++ b.buffer) kept ∙ ap (λ k. a.written ++ k) same), w.1)
