use Rattle.std.proofs.KnownBytes.{Appends-trans}
use Rattle.wire_format.specs.Replies.{reply_bytes}
use Rattle.spec_lib.proofs.Writing.{Appends-then}
use Rattle.wire_format.proofs.reply.write_reply.Goals as goal

pub returns : goal.returns
unfolding reply_bytes
returns g c =
    let status = rw c.to_le_bytes.ensures at c.in_ok-write_all.ensures.bytes in
    let digest_len = rw c.to_le_bytes-2.ensures at c.in_ok-write_all-2.ensures.bytes in
    let first = rw c.to_le_bytes-3.ensures at c.in_ok-write_all-3.ensures.bytes in
    let second = rw c.to_le_bytes-4.ensures at c.in_ok-write_all-4.ensures.bytes in
    let body_len = rw c.to_le_bytes-5.ensures at c.in_ok-write_all-5.ensures.bytes in
    let lengths = Appends-trans _ _ _ _ _ status digest_len in
    let one = Appends-trans _ _ _ _ _ lengths first in
    let two = Appends-trans _ _ _ _ _ one second in
    let head = Appends-trans _ _ _ _ _ two body_len in
    let text = Appends-trans _ _ _ _ _ head c.in_ok-write_all-6.ensures.bytes in
    Appends-then c.write_all-7.result _ _ _ _ _ text c.write_all-7.ensures.bytes
