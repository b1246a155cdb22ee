use Rattle.lq_print_rows.proofs.rows.line_in.Goals as goal

pub told-requires-clause-cause : goal.told-requires-clause-cause
told-requires-clause-cause c = (rw c.in-Err-Unknown.field-0-is at c.in-Err-Unknown.ensures).0

pub told-requires-in-Err-ElimForbidden-clause-cause : goal.told-requires-in-Err-ElimForbidden-clause-cause
told-requires-in-Err-ElimForbidden-clause-cause c = (rw c.in-Err-ElimForbidden.field-0-is at c.in-Err-ElimForbidden.ensures).0
