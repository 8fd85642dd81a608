use Rattle.std.proofs.Common.{inl, inr, refl}
use Rattle.scrypt_request.specs.Request.{scrypt_request_view}
use Rattle.scrypt_command.proofs.run.run_without_report.Goals as goal

pub returns-in-Ok-clause-ends : goal.returns-in-Ok-clause-ends
returns-in-Ok-clause-ends g c = inr (record {
  request = scrypt_request_view c.in-Ok.request;
  asked = c.in-Ok.ensures.reads.request;
  succeeds = c.run.ensures.succeeds;
  refused = c.run.ensures.refused;
  work_bound = c.run.ensures.work_bound;
  no_work = c.run.ensures.no_work;
  count = c.run.ensures.count;
  worked = c.run.ensures.worked;
  unworked = c.run.ensures.unworked;
})

pub returns-in-Err-clause-ends : goal.returns-in-Err-clause-ends
returns-in-Err-clause-ends g c = inl (record {
  refusal = c.in-Err.refusal;
  is = refl;
  refused = (c.in-Err.ensures.reads.refused, refl);
  counts = c.in-Err.ensures.counts;
  no_work = refl;
})
