use Rattle.vx_sourcecore.proofs.Keeping.{fresh_abreast, component_stays, component_kept, wiring_kept, abreast_kept, turned_kept, abreast_under, turned_under}
use Rattle.vx_sourcecore.proofs.MakingKept.{generator_texts, generator_fresh, generating_kept, made_kept, next_kept, generating_under, made_under, next_under}
use Rattle.vx_sourcecore.proofs.laws.source_laws.Goals as goal

pub returns-clause-fresh : goal.returns-clause-fresh
returns-clause-fresh c = fresh_abreast

pub returns-clause-component : goal.returns-clause-component
returns-clause-component c = component_stays

pub returns-clause-component_kept : goal.returns-clause-component_kept
returns-clause-component_kept c = component_kept

pub returns-clause-wiring_kept : goal.returns-clause-wiring_kept
returns-clause-wiring_kept c = wiring_kept

pub returns-clause-kept : goal.returns-clause-kept
returns-clause-kept c = abreast_kept

pub returns-clause-turned_kept : goal.returns-clause-turned_kept
returns-clause-turned_kept c = turned_kept

pub returns-clause-under : goal.returns-clause-under
returns-clause-under c = abreast_under

pub returns-clause-turned_under : goal.returns-clause-turned_under
returns-clause-turned_under c = turned_under

pub returns-clause-generator_texts : goal.returns-clause-generator_texts
returns-clause-generator_texts c = generator_texts

pub returns-clause-generator_fresh : goal.returns-clause-generator_fresh
returns-clause-generator_fresh c = generator_fresh

pub returns-clause-generating_kept : goal.returns-clause-generating_kept
returns-clause-generating_kept c = generating_kept

pub returns-clause-made_kept : goal.returns-clause-made_kept
returns-clause-made_kept c = made_kept

pub returns-clause-next_kept : goal.returns-clause-next_kept
returns-clause-next_kept c = next_kept

pub returns-clause-generating_under : goal.returns-clause-generating_under
returns-clause-generating_under c = generating_under

pub returns-clause-made_under : goal.returns-clause-made_under
returns-clause-made_under c = made_under

pub returns-clause-next_under : goal.returns-clause-next_under
returns-clause-next_under c = next_under
