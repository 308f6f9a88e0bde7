use Rattle.wire_format.proofs.Apart.{parts_are_no_frames, replies_apart, requests_apart}
use Rattle.wire_format.proofs.laws.frames.Goals as goal

pub returns-clause-requests : goal.returns-clause-requests
returns-clause-requests c = requests_apart

pub returns-clause-replies : goal.returns-clause-replies
returns-clause-replies c = replies_apart

pub returns-clause-parts : goal.returns-clause-parts
returns-clause-parts c = parts_are_no_frames
