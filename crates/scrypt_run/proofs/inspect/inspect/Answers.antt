use Rattle.std.proofs.Common.{◌∙◌, ap, refl, inl, inr}
use Rattle.encfile.specs.Header.{costs_of}
use Rattle.scrypt_request.specs.Refusal.{is_out_of_memory}
use Rattle.scrypt_run.proofs.Ends.{handed_match}
use Rattle.scrypt_run.proofs.inspect.inspect.Goals as goal

-- the costs are those of the input, whatever they are
pub returns-in_err-front-clause-memory : goal.returns-in_err-front-clause-memory
returns-in_err-front-clause-memory g c =
    let s = g.H.Host.seen c.args.host.now in
    handed_match _ c.from_residual.result c.from_residual.ensures.1 (λ e same. record {
      costs = costs_of s.input;
      of_header = λ _. refl;
      asked = inr (inl (ap is_out_of_memory same ∙ c.in_err-front.ensures.not_out_of_memory, refl));
    })
