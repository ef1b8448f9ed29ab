use Rattle.charmlet_requests.proofs.calls.call.Goals as goal

pub returns-clause-steps : goal.returns-clause-steps
returns-clause-steps c = (
  record { array = c.target-handler.result.array; index = c.args.index },
  c.target-handler.result.entry,
  c.target-handler.ensures c.args.index,
  c.request.ensures.steps,
)
