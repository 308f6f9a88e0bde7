use Rattle.std.proofs.lemmas.Result.{err_from_is_err_and}
use Rattle.framed_disk.proofs.Torn.{torn_first, torn_second}
use Rattle.framed_disk.proofs.put.write_in_turn.Goals as goal

pub returns-in_err-write-clause-err : goal.returns-in_err-write-clause-err
returns-in_err-write-clause-err g c =
    let p = err_from_is_err_and c.from_residual.result c.from_residual.ensures.1 in
    rw p.1 (torn_first _ _ _ _ (torn_first _ _ _ _ c.in_err-write.ensures.err))

pub returns-in_err-write-2-clause-err : goal.returns-in_err-write-2-clause-err
returns-in_err-write-2-clause-err g c =
    let p = err_from_is_err_and c.from_residual-in_err-write-2.result c.from_residual-in_err-write-2.ensures.1 in
    rw p.1 (torn_first _ _ _ _ (torn_second _ _ _ _ _ c.in_ok-write.ensures.ok c.in_err-write-2.ensures.err))
